-- The command of what was planned.
use Rattle.std.proofs.Common.{◌≡◌, ◌≢◌, ℕ, ◌^◌, ◌<◌, ℤ, ◌≤ℤ◌, List, length, None, refl, sym, ap, ◌∙◌, subst, arith}
use Rattle.std.proofs.lemmas.Option.{same_Some}
use Rattle.result_journal.specs.Grammar.{IsBody}
use Rattle.call_forms.specs.declared.asked.Asked.{Asked}
use Rattle.recorded_calls.specs.declared.command.CallKind.{CallKind}
use Rattle.invocation_world.specs.Advancing.{IsDueAt}
use Rattle.invocation_world.specs.World.{IsCallMoment}
use Rattle.recorded_calls.specs.Commands.{command_bytes, ticked}
use Rattle.service_replay.specs.RequestDemands.Settings.{HasNames, Settings, caller_name}
use Rattle.service_replay.specs.ServiceEffects.declared.effect.Effect.TheVariants as does
use Rattle.service_replay.specs.ServiceEffects.Fitting.{IsTimely}
use Rattle.service_replay.specs.ServiceEffects.Service.{ServiceWorld, recorded}
use Rattle.service_replay.proofs.ServiceEffects.EffectLaws.{effects_change}
use Rattle.service_replay.specs.ServiceCore.declared.plan.Work.TheVariants.{Tick}
use Rattle.service_replay.specs.ServiceCore.CoreState.{CoreState, PlanState, world_in}
use Rattle.service_replay.specs.ServiceCore.Plans.{Carries, Fits, IsPlanOf}
use Rattle.service_replay.specs.Replay.{IsKindOf, IsRecorded, Replays, command_of}
use Rattle.service_replay.specs.ServiceCore.Step.{effect_for}
use Rattle.service_replay.proofs.ServiceCore.ClearedLaws.{accepted_suits}
use Rattle.service_replay.proofs.ServiceCore.PlanLaws.{kept_same, stored_same}
use Rattle.service_replay.proofs.ReplayLaws.{kind_is_there, recorded_is_replayed, tick_is_replayed}
use Rattle.service_replay.proofs.ServiceCore.ServeLaws.{ticked as ticked_so}
use Rattle.service_replay.proofs.ServiceEffects.RoomLaws.{same_parts}
use Rattle.service_machine.specs.Machines.{IsCommandOf, IsFit}
use Rattle.service_machine.specs.Leading.{carries_there}
use Rattle.service_machine.proofs.MachineLaws.{replays_are_alone}

-- what was planned changes something
plan_changes : (s : Settings) (w : ServiceWorld) (moment : ℤ) (asked : Asked) (plan : PlanState) → HasNames s → IsTimely w.rows moment
    → (is : IsPlanOf s w moment asked plan) → effect_for s w moment is.caller is.request ≢ does.Nothing
plan_changes s w moment asked plan names timely is = λ nothing.
    let there = carries_there w plan in
    let after = there.0 in
    let acts = (is.acts after there.1).0 in
    let same = (effects_change (recorded w) (recorded after) moment (effect_for s w moment is.caller is.request) timely
    (accepted_suits s w moment asked is.caller is.request names timely is.accepted) is.accepted.room acts.made).0 nothing in
    is.changes after there.1
    (same_parts after w (ap (λ r. r.rows) same) (ap (λ r. r.results) same) (ap (λ r. r.exonerations) same)
    (ap (λ r. r.artifacts) same) (acts.kept ∙ sym (kept_same s w moment asked is.caller is.request nothing))
    (acts.stored ∙ sym (stored_same s w moment asked is.caller is.request nothing)))

-- what was planned is recorded
pub plan_recorded : (s : Settings) (w : ServiceWorld) (moment : ℤ) (asked : Asked) (plan : PlanState) (after : ServiceWorld) → HasNames s
    → IsTimely w.rows moment → length asked.body < 2 ^ 32 → (is : IsPlanOf s w moment asked plan) → Carries w plan after
    → IsRecorded w moment (caller_name s is.caller) asked after
plan_recorded s w moment asked plan after names timely short is carries =
    recorded_is_replayed s w moment asked is.caller is.request after names timely short is.accepted
    (plan_changes s w moment asked plan names timely is) (is.acts after carries).0

pub kind_found : (s : Settings) (w : ServiceWorld) (moment : ℤ) (asked : Asked) (plan : PlanState) → HasNames s → IsTimely w.rows moment
    → IsPlanOf s w moment asked plan → (k : CallKind) × IsKindOf k asked
kind_found s w moment asked plan names timely is =
    kind_is_there s w moment asked is.caller is.request is.accepted (plan_changes s w moment asked plan names timely is)

-- a plan with the command of what was asked fits
pub change_fits : (s : Settings) (core : CoreState) (moment : ℤ) (asked : Asked) (plan : PlanState) (command : List ℕ) → HasNames s
    → IsTimely core.held.world.world moment → length asked.body < 2 ^ 32 → IsPlanOf s (world_in core) moment asked plan → Fits core plan
    → IsCommandOf s moment asked command → IsBody command → IsFit core (record { plan = plan; command = command })
change_fits s core moment asked plan command names timely short is fits of_it body = record {
  fits = fits;
  body = body;
  leads = λ after carries. replays_are_alone (world_in core) command after (
      let recorded_so = plan_recorded s (world_in core) moment asked plan after names timely short is carries in
      let same : is.caller ≡ of_it.caller =
      same_Some is.caller of_it.caller (sym is.accepted.new.wants.caller_is ∙ of_it.caller_is) in
      subst (λ (bytes : List ℕ). Replays (world_in core) bytes after) (sym of_it.form)
      (subst (λ (c : ℕ). Replays (world_in core) (command_of of_it.kind moment (caller_name s c) asked) after) same
      (recorded_so.replays of_it.kind of_it.of_kind)));
}

-- and so does the plan of due deadlines with its tick
pub tick_fits : (core : CoreState) (moment : ℤ) (plan : PlanState) (command : List ℕ) → IsCallMoment moment → core.held.world.world.last ≤ℤ moment
    → IsDueAt core.held.world.world moment → Fits core plan → plan.work ≡ Tick moment → plan.keep ≡ None → plan.length ≡ 14
    → command ≡ command_bytes (ticked moment) → IsFit core (record { plan = plan; command = command })
tick_fits core moment plan command call later due fits is none length form = record {
  fits = fits;
  body = subst IsBody (sym form) (record { some = omega arith; few = omega arith });
  leads = λ after carries. replays_are_alone (world_in core) command after (
      subst (λ (bytes : List ℕ). Replays (world_in core) bytes after) (sym form)
      (tick_is_replayed (world_in core) moment after call later due (ticked_so core core plan after moment refl is none length due carries)));
}

-- commands of what was asked are equally long
pub equally_long : (s : Settings) (moment : ℤ) (asked : Asked) (command other : List ℕ) → IsCommandOf s moment asked command
    → IsCommandOf s moment asked other → length command ≡ length other
equally_long s moment asked command other this that =
    let same : this.caller ≡ that.caller = same_Some this.caller that.caller (sym this.caller_is ∙ that.caller_is) in
    ap length this.form
    ∙ (ap (λ (c : ℕ). length (command_of this.kind moment (caller_name s c) asked)) same ∙ sym (ap length that.form))
