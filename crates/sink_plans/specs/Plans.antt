-- What is uploaded of a report.
use Rattle.std.specs.Prelude.{ℕ, zero, suc, ◌+◌, ◌*◌, List, [], ◌∷◌, ◌++◌, length, take, drop, map}
use Rattle.std.specs.Int.{div_ceil}
use Rattle.names_realms.specs.declared.states.Case.{Case}
use Rattle.report_ids.specs.Digests.{report_digest, request_id_text}
use Rattle.sink_plans.specs.Results.{results_from}
use Rattle.sink_plans.specs.declared.plans.Destination.{Destination}
use Rattle.sink_plans.specs.declared.plans.SinkBatch.{SinkBatch}
use Rattle.sink_plans.specs.declared.plans.SinkPlan.{SinkPlan}

-- The numbers 0, 1 and so on, so many of them.
abbrev pub first_numbers : ℕ → List ℕ
first_numbers zero = []
first_numbers (suc n) = first_numbers n ++ n ∷ []

-- The batch behind so many others, when these cases are left: the first 200, or as many as there
-- are.
abbrev pub batch_from : List ℕ → List ℕ → List Case → ℕ → SinkBatch
batch_from digest prefix left others = record {
  request_id = request_id_text digest (others + 1);
  results = results_from digest prefix (200 * others + 1) (take 200 left);
}

-- The batch behind so many others: it has the cases behind theirs.
abbrev pub batch_behind : List ℕ → List ℕ → List Case → ℕ → SinkBatch
batch_behind digest prefix cases others =
    batch_from digest prefix (drop (200 * others) cases) others

-- The batches of cases, as many as it takes.
abbrev pub batches_of : List ℕ → List ℕ → List Case → List SinkBatch
batches_of digest prefix cases =
    map (batch_behind digest prefix cases) (first_numbers (div_ceil (length cases) 200))

-- The plan of a report with these cases, under a prefix.
abbrev pub plan_for : List ℕ → List Case → List ℕ → Destination → SinkPlan
plan_for report cases prefix to = record {
  invocation = to.invocation;
  bearer = to.bearer;
  update_token = to.update_token;
  batches = batches_of (report_digest to.invocation report) prefix cases;
}
