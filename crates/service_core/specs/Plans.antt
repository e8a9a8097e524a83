-- What a request is prepared to.
use Rattle.std.specs.Prelude.{⊤, ◌≡◌, ◌≢◌, ◌<◌, ℕ, ◌+◌, ◌^◌, ℤ, ◌≤ℤ◌, Option, Some, None}
use Rattle.kept_replies.specs.declared.reply.KeptReply.{KeptReply}
use Rattle.kept_replies.specs.Kept.{IsFree, IsWord, KeptState}
use Rattle.call_forms.specs.declared.forms.Answer.{Answer}
use Rattle.call_forms.specs.declared.asked.Asked.{Asked}
use Rattle.request_effects.specs.MessageForms.declared.requests.Request.{Request}
use Rattle.invocation_world.specs.World.{IsCallMoment}
use Rattle.request_effects.specs.RequestDemands.Settings.{Settings}
use Rattle.service_effects.specs.declared.tables.Tables.{Tables}
use Rattle.service_effects.specs.Effects.{Makes}
use Rattle.service_effects.specs.Fitting as effects
use Rattle.request_effects.specs.Keeps.{with_kept}
use Rattle.service_effects.specs.Service.{Recorded, ServiceWorld, recorded}
use Rattle.request_effects.specs.Answers.{Answers}
use Rattle.request_effects.specs.Shows.{shows_of}
use Rattle.service_core.specs.declared.plan.Work.{Work}
use Rattle.service_core.specs.declared.plan.Work.TheVariants.{Tick, Change}
use Rattle.service_core.specs.declared.plan.Prepared.{Prepared}
use Rattle.service_core.specs.declared.plan.Prepared.TheVariants as prepared
use Rattle.service_core.specs.CoreState.{CoreState, PlanState, world_in}
use Rattle.service_core.specs.Service.{CarriesDue}
use Rattle.service_core.specs.Step.{IsAccepted, Acts, Refuses, Repeats, Performs, scene_of}

-- What is planned makes this of what is recorded: due deadlines are carried out at a moment; or a
-- request's change is made.
abbrev pub Works : Recorded → Work → Recorded → Type 0
Works w (Tick moment) after = CarriesDue w moment after
Works w (Change change) after = Makes change.moment change.effect w after

-- A plan makes this of a world, part by part.
pub record Carries (w : ServiceWorld) (plan : PlanState) (after : ServiceWorld) : Type 0 where
  pub made : Works (recorded w) plan.work (recorded after)
  pub kept : after.kept ≡ with_kept w.kept plan.keep
  pub stored : after.stored ≡ w.stored + plan.length

-- It can be done in the tables that are held, without memory.
abbrev pub CanDo : Tables → Work → Type 0
CanDo held (Tick moment) = IsCallMoment moment × (held.world.world.last ≤ℤ moment)
CanDo held (Change change) = effects.Fits held change.moment change.effect

-- What is to be kept has a number for which nothing is kept, and there is room for it.
abbrev pub CanKeep : KeptState → Option KeptReply → Type 0
CanKeep keeps None = ⊤
CanKeep keeps (Some reply) =
    (0 < keeps.room) × IsWord reply.number × IsFree keeps.kept reply.caller reply.number

-- The plan was made for this core: no change was made since, and it can be done. What the records
-- take is counted in 64 bits.
pub record Fits (core : CoreState) (plan : PlanState) : Type 0 where
  pub made : plan.made_at ≡ core.changes
  pub can : CanDo core.held plan.work
  pub keep : CanKeep core.keeps plan.keep
  pub counted : core.stored + plan.length < 2 ^ 64

-- The plan does what a caller asks for and is granted, and gives the reply to it. It changes the
-- world: what changes nothing is answered and not planned.
pub record IsPlanOf (s : Settings) (w : ServiceWorld) (moment : ℤ) (asked : Asked)
    (plan : PlanState) : Type 0 where
  pub caller : ℕ
  pub request : Request
  pub accepted : IsAccepted s w moment asked caller request
  pub answer : Answer
  pub answer_is : plan.answer ≡ Some answer
  pub acts : (after : ServiceWorld) → Carries w plan after
      → Acts s w moment asked caller request after
      × Answers (scene_of s after) caller (shows_of (recorded w) request) answer
  pub changes : (after : ServiceWorld) → Carries w plan after → after ≢ w

-- A request is refused by the answer of the rule that it breaks; or it is a repeat, and this is the
-- answer to it; or it is accepted, and answered without a change; or it is accepted, and its plan
-- fits the core.
abbrev pub IsPrepared : Settings → CoreState → ℤ → Asked → Prepared → Type 0
IsPrepared s core moment asked (prepared.Refused answer) =
    Refuses s (world_in core) moment asked (world_in core) answer
IsPrepared s core moment asked (prepared.Repeated answer) =
    Repeats s (world_in core) moment asked (world_in core) answer
IsPrepared s core moment asked (prepared.Answered answer) =
    Performs s (world_in core) moment asked (world_in core) answer
IsPrepared s core moment asked (prepared.Change plan) =
    IsPlanOf s (world_in core) moment asked plan × Fits core plan
