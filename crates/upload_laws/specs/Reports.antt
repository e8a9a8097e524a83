-- Reports, their plans, and their cases as results.
use Rattle.std.specs.Prelude.{◌≡◌, ◌≤◌, ◌^◌, ℕ, List, All, length}
use Rattle.std.specs.List.{flat_map}
use Rattle.std.specs.Option.{ForSome}
use Rattle.std.specs.Str.{IsUtf8}
use Rattle.moments_spans.specs.Spans.{most_span}
use Rattle.names_realms.specs.Names.{IsInvocationId}
use Rattle.names_realms.specs.declared.states.Case.{Case}
use Rattle.test_results.specs.declared.result.TestResult.{TestResult}
use Rattle.result_forms.specs.Fields.{IsMessage}
use Rattle.report_ids.specs.Digests.{report_digest}
use Rattle.sink_plans.specs.Plans.{plan_for}
use Rattle.sink_plans.specs.Results.{results_from}
use Rattle.sink_plans.specs.declared.plans.Destination.{Destination}
use Rattle.sink_plans.specs.declared.plans.SinkPlan.{SinkPlan}

-- A report: its text, the cases that were read of it, the prefix of their names, and the invocation
-- that it goes to, with the two tokens.
pub record Report : Type 0 where
  pub text : List ℕ
  pub cases : List Case
  pub prefix : List ℕ
  pub to : Destination

-- the plan that is uploaded
abbrev pub plan_in : Report → SinkPlan
plan_in r = plan_for r.text r.cases r.prefix r.to

-- its cases as results, in order
abbrev pub results_in : Report → List TestResult
results_in r = results_from (report_digest r.to.invocation r.text) r.prefix 1 r.cases

-- A result can say what the case does: its message is UTF-8 of at most 1,024 bytes, and it took no
-- longer than a duration may be.
pub record CanBeSaid (case : Case) : Type 0 where
  pub message : IsMessage case.message
  pub duration : ForSome case.duration (λ span. span ≤ most_span)

-- A report can be sent where its invocation has the id of one, its prefix is text, and it has no
-- more than 2^40 cases, each of which can be said.
pub record CanBeSent (r : Report) : Type 0 where
  pub invocation : IsInvocationId r.to.invocation
  pub prefix : IsUtf8 r.prefix
  pub few : length r.cases ≤ 2 ^ 40
  pub said : All CanBeSaid r.cases

-- The batches of its plan have each of these, once and in order.
abbrev pub BatchesHaveEachCase : Type 0
BatchesHaveEachCase =
    (r : Report) → flat_map (λ batch. batch.results) (plan_in r).batches ≡ results_in r
