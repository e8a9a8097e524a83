-- The requests of the workload, as they are asked.
use Rattle.std.specs.Prelude.{ℕ, Bool, true, false, List, [], ◌∷◌, ◌++◌, map, codes, Option, Some, None}
use Rattle.std.specs.List.{flat_map, range_with_len}
use Rattle.serde_json.specs.Written.{compact_text}
use Rattle.call_forms.specs.declared.asked.Asked.{Asked}
use Rattle.message_forms.specs.Methods.{method_asked, name_of, request_data, service_of}
use Rattle.message_forms.specs.declared.requests.Request.{Request}
use Rattle.message_forms.specs.declared.requests.Request.TheVariants as asks
use Rattle.page_tokens.specs.declared.kinds.VerdictCursor.{VerdictCursor}
use Rattle.update_tokens.specs.Hash.{token_text}
use Rattle.workload_draws.specs.Drawn.{invocation_at}
use Rattle.workload_draws.specs.declared.drawn.DrawnInvocation.{DrawnInvocation}
use Rattle.workload_plans.specs.Requests.{batch_request, create_request, finalise_request, include_request}
use Rattle.workload_plans.specs.Requests.{load_id, page_request}

-- A request of the one caller, with an update token or without. Its body is compact JSON.
abbrev pub asked_of : Option (List ℕ) → Request → Asked
asked_of token request = record {
  bearer = Some (codes "load");
  update_token = token;
  service = service_of (method_asked request);
  method = name_of (method_asked request);
  body = compact_text (request_data request);
}

-- what changes an invocation, with its update token under this secret
abbrev pub change_asked : List ℕ → ℕ → Request → Asked
change_asked secret i request = asked_of (Some (token_text secret (load_id i))) request

abbrev pub including_asked : List ℕ → ℕ → Option ℕ → List Asked
including_asked secret i None = []
including_asked secret i (Some j) = change_asked secret i (include_request i j) ∷ []

abbrev pub end_asked : List ℕ → ℕ → Bool → List Asked
end_asked secret i false = []
end_asked secret i true = change_asked secret i (finalise_request i) ∷ []

-- An invocation of which this was drawn: it is made, includes another one, takes its results, and
-- may end.
abbrev pub invocation_asked : List ℕ → ℕ → DrawnInvocation → List Asked
invocation_asked secret i drawn =
    (asked_of None (create_request i) ∷ [])
    ++ including_asked secret i drawn.includes
    ++ (change_asked secret i (batch_request i drawn.results) ∷ [])
    ++ end_asked secret i drawn.finalises

-- All that is asked before the pages, of a number and a count: the invocations in turn, and then
-- that each of them end.
abbrev pub changes_asked : List ℕ → ℕ → ℕ → List Asked
changes_asked secret number count =
    flat_map (λ i. invocation_asked secret i (invocation_at number i)) (range_with_len 0 count)
    ++ map (λ i. change_asked secret i (finalise_request i)) (range_with_len 0 count)

-- a page of the verdicts that an invocation reaches
abbrev pub page_asked : ℕ → Option VerdictCursor → Asked
page_asked i behind = asked_of None (asks.QueryTestVariants (page_request i behind))
