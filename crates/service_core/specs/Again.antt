-- What a request is prepared to again that was accepted before: by its caller's name alone, with no
-- policy.
use Rattle.std.specs.Prelude.{⊤, ◌≡◌, ◌≢◌, ℕ, ℤ, List, Option, Some, None}
use Rattle.kept_replies.specs.declared.reply.KeptReply.{KeptReply}
use Rattle.kept_replies.specs.Kept.{IsFree, IsWord}
use Rattle.request_effects.specs.MessageForms.declared.requests.Request.{Request}
use Rattle.service_effects.specs.declared.effect.Effect.{Effect}
use Rattle.service_effects.specs.declared.effect.Effect.TheVariants as does
use Rattle.service_effects.specs.Refused.{IsUnrefused}
use Rattle.service_effects.specs.States.{recorded_in}
use Rattle.service_effects.specs.Storing.{IsStorable}
use Rattle.request_effects.specs.declared.keeping.Numbered.{Numbered}
use Rattle.request_effects.specs.Effects.{effect_of}
use Rattle.request_effects.specs.Keeps.{kept_of}
use Rattle.service_core.specs.declared.plan.CallRecord.{CallRecord}
use Rattle.service_core.specs.declared.plan.Work.TheVariants as work
use Rattle.service_core.specs.CoreState.{CoreState, PlanState}
use Rattle.service_core.specs.Plans.{Fits}

-- Nothing is kept for a number of a caller of this name, and it has no blank.
abbrev pub IsFreeFor : List KeptReply → List ℕ → Option Numbered → Type 0
IsFreeFor kept name None = ⊤
IsFreeFor kept name (Some numbered) = IsWord numbered.number × IsFree kept name numbered.number

-- What is done again at a moment for a caller of some name, under a number, if it has one, and how
-- many bytes its record takes.
pub record Again : Type 0 where
  pub moment : ℤ
  pub name : List ℕ
  pub numbered : Option Numbered
  pub length : ℕ
  pub effect : Effect

-- the plan that does it and gives no answer, made in this core
abbrev pub plan_again : CoreState → Again → PlanState
plan_again core a = record {
  work = work.Change (record { moment = a.moment; effect = a.effect });
  keep = kept_of (recorded_in core.held) a.name a.numbered a.effect;
  answer = None;
  length = a.length;
  made_at = core.changes;
}

-- It does nothing, or its record has no place, or else this is its plan, which fits the core.
abbrev pub IsDoneBy : CoreState → Again → Option PlanState → Type 0
IsDoneBy core a None = IsStorable core.stored a.length → a.effect ≡ does.Nothing
IsDoneBy core a (Some plan) =
    IsStorable core.stored a.length × (a.effect ≢ does.Nothing) × (plan ≡ plan_again core a)
    × Fits core plan

-- what is done by the name of its caller
abbrev pub again_of : CoreState → ℤ → List ℕ → CallRecord → Request → Again
again_of core moment name recorded request = record {
  moment = moment;
  name = name;
  numbered = recorded.numbered;
  length = recorded.length;
  effect = effect_of (recorded_in core.held) moment name request;
}

-- There is no plan where what is done is refused, or is nothing, or its record has no place; what
-- else is done isn't refused, and this is its plan.
abbrev pub IsPreparedAgain : CoreState → Again → Option PlanState → Type 0
IsPreparedAgain core a None =
    IsUnrefused (recorded_in core.held) a.effect → IsStorable core.stored a.length
    → a.effect ≡ does.Nothing
IsPreparedAgain core a (Some plan) =
    IsUnrefused (recorded_in core.held) a.effect × IsDoneBy core a (Some plan)
