-- The code's own words: what a request is planned to that breaks no rule for what is demanded.
use Rattle.std.specs.Prelude.{◌≡◌, ◌≢◌, ◌<◌, ℕ, ℤ, Option, Some, Result, Ok, Err, IfSome}
use Rattle.kept_replies.specs.declared.reply.KeptReply.{KeptReply}
use Rattle.call_forms.specs.declared.asked.Asked.{Asked}
use Rattle.call_forms.specs.declared.forms.Answer.{Answer}
use Rattle.call_forms.specs.declared.forms.Refusal.{Refusal}
use Rattle.call_forms.specs.Rules.{refusal_answer}
use Rattle.request_effects.specs.MessageForms.declared.requests.Request.{Request}
use Rattle.request_effects.specs.RequestDemands.Settings.{Settings}
use Rattle.service_effects.specs.declared.effect.Change.{Change}
use Rattle.service_effects.specs.declared.effect.Effect.{Effect}
use Rattle.service_effects.specs.declared.effect.Effect.TheVariants as does
use Rattle.request_effects.specs.declared.shows.Showing.{Showing}
use Rattle.service_effects.specs.Effects.{Makes}
use Rattle.service_effects.specs.Fitting.{Fits}
use Rattle.service_effects.specs.Service.{Recorded}
use Rattle.service_effects.specs.Storing.{DoingRefused, IsStorable, StoreRefused, bytes_of}
use Rattle.request_effects.specs.Answers.{Answers}
use Rattle.request_effects.specs.Shows.{shows_of}
use Rattle.service_effects.specs.States.{recorded_in}
use Rattle.service_core.specs.declared.plan.Prepared.{Prepared}
use Rattle.service_core.specs.declared.plan.Prepared.TheVariants as prepared
use Rattle.service_core.specs.declared.plan.Work.TheVariants as work
use Rattle.service_core.specs.CoreState.{CoreState, PlanState, world_in}
use Rattle.service_core.specs.Step.{bytes_for, effect_for, keep_for}

-- the answer shows this to a caller, of what a change leaves
abbrev pub Foretells : Settings → ℕ → Recorded → Change → Showing → Answer → Type 0
Foretells s caller w change shows answer =
    (after : Recorded) → Makes change.moment change.effect w after
    → Answers (record { settings = s; world = after }) caller shows answer

-- The effect has place for its record, where that of a call takes so many bytes; or it is refused.
abbrev pub IsPlaced : ℕ → Effect → ℕ → Result Effect Answer → Type 0
IsPlaced stored effect length (Ok e) = (e ≡ effect) × IsStorable stored (bytes_of effect length)
IsPlaced stored effect length (Err answer) =
    (r : Refusal) × StoreRefused stored (bytes_of effect length) r × (answer ≡ refusal_answer r)

-- What is done and kept of a request, and how many bytes its record takes.
pub record Deed : Type 0 where
  pub change : Change
  pub keep : Option KeptReply
  pub length : ℕ

-- the plan of what shows this, made in this core
abbrev pub plan_of : Deed → Answer → CoreState → PlanState
plan_of deed answer core = record {
  work = work.Change deed.change;
  keep = deed.keep;
  answer = Some answer;
  length = deed.length;
  made_at = core.changes;
}

-- A change that does nothing is answered; another one is planned, with its answer.
abbrev pub IsShown : Settings → ℕ → CoreState → Deed → Showing → Prepared → Type 0
IsShown s caller core deed shows (prepared.Refused answer) = ⊥
IsShown s caller core deed shows (prepared.Repeated answer) = ⊥
IsShown s caller core deed shows (prepared.Answered answer) =
    (deed.change.effect ≡ does.Nothing)
    × Foretells s caller (recorded_in core.held) deed.change shows answer
IsShown s caller core deed shows (prepared.Change plan) =
    (deed.change.effect ≢ does.Nothing)
    × ((answer : Answer) × (plan ≡ plan_of deed answer core)
    × Foretells s caller (recorded_in core.held) deed.change shows answer)

-- what is done and kept of a caller's request at a moment
abbrev pub deed_for : Settings → CoreState → ℤ → Asked → ℕ → Request → Deed
deed_for s core moment asked caller request = record {
  change = record {
    moment = moment;
    effect = effect_for s (world_in core) moment caller request;
  };
  keep = keep_for s (world_in core) moment asked caller request;
  length = bytes_for s (world_in core) moment asked caller request;
}

-- What the request does can be done, there is room for what is kept of it and place for its record,
-- and it is shown.
abbrev pub IsReady : Settings → CoreState → ℤ → Asked → ℕ → Request → Prepared → Type 0
IsReady s core moment asked caller request p =
    Fits core.held moment (effect_for s (world_in core) moment caller request)
    × IfSome (keep_for s (world_in core) moment asked caller request)
    (λ reply. 0 < core.keeps.room)
    × IsStorable core.stored (bytes_for s (world_in core) moment asked caller request)
    × IsShown s caller core (deed_for s core moment asked caller request)
    (shows_of (recorded_in core.held) request) p

-- The request is refused for what it does; or there is room, and what it does is shown.
abbrev pub ComesTo : Settings → CoreState → ℤ → Asked → ℕ → Request → Prepared → Type 0
ComesTo s core moment asked caller request (prepared.Refused answer) =
    (r : Refusal)
    × DoingRefused (recorded_in core.held) core.stored
    (effect_for s (world_in core) moment caller request)
    (bytes_for s (world_in core) moment asked caller request) r
    × (answer ≡ refusal_answer r)
ComesTo s core moment asked caller request (prepared.Repeated answer) = ⊥
ComesTo s core moment asked caller request (prepared.Answered answer) =
    IsReady s core moment asked caller request (prepared.Answered answer)
ComesTo s core moment asked caller request (prepared.Change plan) =
    IsReady s core moment asked caller request (prepared.Change plan)
