-- Calls that are judged, and due deadlines that are carried out.
use Rattle.std.proofs.Common.{◌≡◌, ◌≢◌, ℕ, ℤ, ◌≤ℤ◌, Bool, List, Option, Some, None, refl, sym, ap, ◌∙◌, subst, inl, inr}
use Rattle.std.specs.Prelude.{◌+◌, [], ◌∷◌, Any, slice_get}
use Rattle.std.proofs.lemmas.Option.{slice_get-get_or}
use Rattle.invocations.specs.Due.{IsDue}
use Rattle.invocation_world.specs.Advancing.{AreQuiet, CarriesOut, IsDueAt, IsQuiet}
use Rattle.invocation_world.proofs.RowFacts.{all_at}
use Rattle.service_effects.specs.Storing.{stored_due}
use Rattle.invocations.specs.declared.invocation.Invocation.{Invocation}
use Rattle.request_effects.specs.RequestRules.Held.{Held}
use Rattle.request_effects.specs.Places.{held_in}
use Rattle.call_forms.specs.declared.asked.Asked.{Asked}
use Rattle.call_forms.specs.declared.forms.Answer.{Answer}
use Rattle.call_forms.specs.declared.forms.Refusal.{Refusal}
use Rattle.call_forms.specs.declared.forms.Standin.TheVariants.{Memory, Spent, Unavailable}
use Rattle.call_forms.specs.declared.forms.Told.{Told}
use Rattle.call_forms.specs.declared.forms.Told.TheVariants.{Made, Standin as Instead}
use Rattle.call_forms.specs.Rules.{refusal_answer}
use Rattle.kept_replies.specs.declared.reply.KeptReply.{KeptReply}
use Rattle.invocation_world.specs.World.{World, IsCallMoment, IsValid}
use Rattle.request_effects.specs.RequestDemands.declared.reading.Call.{Call}
use Rattle.request_effects.specs.RequestDemands.declared.numbers.NumberCheck.{NumberCheck}
use Rattle.request_effects.specs.RequestDemands.declared.numbers.NumberCheck.TheVariants.{Repeat}
use Rattle.request_effects.specs.RequestRules.declared.rules.Rule.{Rule}
use Rattle.request_effects.specs.RequestDemands.declared.reading.Understood.{Understood}
use Rattle.request_effects.specs.RequestDemands.declared.reading.Understood.TheVariants.{Refused}
use Rattle.request_effects.specs.RequestDemands.Settings.{Settings, caller_name}
use Rattle.request_effects.specs.RequestDemands.Demands.{demand_of}
use Rattle.request_effects.specs.RequestDemands.Numbered.{IsNumbered, IsRepeatOf}
use Rattle.request_effects.proofs.RequestDemands.NumberLaws.{fresh_as}
use Rattle.request_effects.specs.RequestDemands.Order.{Judges}
use Rattle.request_effects.specs.RequestRules.Broken.{IsBroken, order}
use Rattle.request_effects.specs.RequestDemands.Understood.{IsCallOf, IsUnderstood}
use Rattle.service_effects.specs.Fitting.{IsTimely}
use Rattle.request_effects.specs.Keeps.{kept_answer, with_kept}
use Rattle.service_core.specs.declared.plan.Work.{Work}
use Rattle.service_core.specs.declared.plan.Work.TheVariants.{Tick}
use Rattle.service_core.specs.CoreState.{CoreState, PlanState, world_in}
use Rattle.service_core.specs.Plans.{Carries, Works}
use Rattle.service_effects.specs.Service.{ServiceWorld, recorded}
use Rattle.service_effects.specs.States.{recorded_in}
use Rattle.service_core.specs.Service.{CarriesDue, CatchesUp}
use Rattle.service_core.specs.Step.{IsJudgedAs, IsNew, Refuses, Repeats, moment_of, scene_of}
use Rattle.service_core.specs.Judged.{IsAnswered}
use Rattle.service_core.specs.History.{Entry, Leads, Tells, entry_at}
use Rattle.service_core.proofs.HistoryLaws.{advanced_timely}

-- nothing is quiet where something is due
pub never_quiet : (rows : List Invocation) (moment : ℤ) → AreQuiet rows moment → Any (IsDue moment) rows → ⊥
never_quiet rows moment quiet due =
    all_at (λ r. ¬ IsDue moment r) rows due.0 due.1 quiet
    (slice_get-get_or rows due.0 due.1 due.2 ∙ ap (λ (r : Invocation). Some r) due.3) due.4

-- where nothing is due nothing is carried out
pub quiet_caught : (w : ServiceWorld) (moment : ℤ) → IsQuiet w.rows moment → CatchesUp w moment w
quiet_caught w moment quiet = record {
  due = record {
    rows = record { deadlines = []; rows = w.rows.invocations; carried = (quiet, refl); after_is = refl };
    results = refl;
    exonerations = refl;
    artifacts = refl;
  };
  kept = refl;
  stored = refl;
}

-- what is due is recorded by one tick
stored_by : (w : World) (after : List Invocation) (moment : ℤ) (deadlines : List ℤ) (stored : ℕ)
    → CarriesOut w.inclusions moment w.invocations deadlines after → IsDueAt w moment → stored_due deadlines stored ≡ stored + 14
stored_by w after moment [] stored carried due = absurd (never_quiet w.invocations moment carried.0 due)
stored_by w after moment (deadline ∷ later) stored carried due = refl

-- due deadlines that were carried out by a plan that keeps nothing
pub ticked : (old new : CoreState) (plan : PlanState) (after : ServiceWorld) (moment : ℤ) → new ≡ old → plan.work ≡ Tick moment
    → plan.keep ≡ None → plan.length ≡ 14 → IsDueAt old.held.world.world moment → Carries (world_in new) plan after
    → CatchesUp (world_in old) moment after
ticked old new plan after moment same is none length due carries =
    let made : CarriesDue (recorded_in new.held) moment (recorded after) =
    subst (λ (x : Work). Works (recorded_in new.held) x (recorded after)) is carries.made in
    let rows = new.held.world.world in
    subst (λ (core : CoreState). CatchesUp (world_in core) moment after) same (record {
      due = made;
      kept = carries.kept ∙ ap (with_kept new.keeps.kept) none;
      stored = carries.stored
          ∙ (ap (λ (n : ℕ). new.stored + n) length
          ∙ sym (stored_by rows made.rows.rows moment made.rows.deadlines new.stored made.rows.carried
          (subst (λ (core : CoreState). IsDueAt core.held.world.world moment) (sym same) due)));
    })

pub caught_up : (old : CoreState) (after : ServiceWorld) (moment : ℤ) → IsValid old.held.world.world → IsCallMoment moment
    → old.held.world.world.last ≤ℤ moment → CatchesUp (world_in old) moment after → IsTimely after.rows moment
caught_up old after moment valid call later due = advanced_timely old.held.world.world after.rows moment valid call later due.due.rows

-- whatever was found of a call among these rows, which are those of a world
pub found_there : (s : Settings) (w : ServiceWorld) (moment : ℤ) (rows : List Invocation) (held : Held) (asked : Asked) (call : Call)
    (ks : List Rule) (found : Option Refusal) → rows ≡ w.rows.invocations → held ≡ held_in (recorded w) → ks ≡ order
    → Judges (IsBroken (record { settings = s; rows = rows; held = held; kept = w.kept; moment = moment; asked = asked; caller = call.caller }) (demand_of call.request)) ks found
    → IsJudgedAs s w moment asked call.caller call.request found
found_there s w moment rows held asked call ks found same same_held all judged =
    let Found : List Invocation → Held → List Rule → Type 0 =
    λ rs hs ls. Judges (IsBroken (record { settings = s; rows = rs; held = hs; kept = w.kept; moment = moment; asked = asked; caller = call.caller }) (demand_of call.request)) ls found in
    subst (λ (ls : List Rule). Found w.rows.invocations (held_in (recorded w)) ls) all
    (subst (λ (hs : Held). Found w.rows.invocations hs ks) same_held
    (subst (λ (rs : List Invocation). Found rs held ks) same judged))

pub refuses_first : (s : Settings) (w : ServiceWorld) (moment : ℤ) (asked : Asked) (call : Call) (r : Refusal) (answer : Answer)
    → IsNew s w moment asked call.caller call.request → IsJudgedAs s w moment asked call.caller call.request (Some r) → answer ≡ refusal_answer r
    → Refuses s w moment asked w answer
refuses_first s w moment asked call r answer new first told = record {
  refusal = r;
  is_refusal = inr (call.caller, call.request, new, inl first);
  same = refl;
  answer_is = told;
}

-- what is refused by itself is refused in each world
pub refuses_alone : (s : Settings) (core : CoreState) (moment : ℤ) (asked : Asked) (understood : Understood) (answer : Answer)
    → understood ≡ Refused answer → IsUnderstood s asked understood → Refuses s (world_in core) moment asked (world_in core) answer
refuses_alone s core moment asked understood answer is told =
    let alone = subst (IsUnderstood s asked) is told in
    record {
      refusal = alone.0;
      is_refusal = inl alone.1;
      same = refl;
      answer_is = alone.2;
    }

-- what was checked for a name that is the caller's, in a core that is this one
pub numbered_in : (s : Settings) (inside core : CoreState) (asked : Asked) (call : Call) (name : List ℕ) (check : NumberCheck) → inside ≡ core
    → name ≡ caller_name s call.caller → IsNumbered inside.keeps.kept name asked (demand_of call.request) check
    → IsNumbered core.keeps.kept (caller_name s call.caller) asked (demand_of call.request) check
numbered_in s inside core asked call name check same name_is numbered =
    subst (λ (n : List ℕ). IsNumbered core.keeps.kept n asked (demand_of call.request) check) name_is
    (subst (λ (k : CoreState). IsNumbered k.keeps.kept name asked (demand_of call.request) check) same numbered)

-- a call whose number is checked to be no repeat's is new
pub new_as : (s : Settings) (w : ServiceWorld) (moment : ℤ) (asked : Asked) (call : Call) (check : NumberCheck) → IsCallOf s asked call
    → IsNumbered w.kept (caller_name s call.caller) asked (demand_of call.request) check → ((place : ℕ) → check ≢ Repeat place)
    → IsNew s w moment asked call.caller call.request
new_as s w moment asked call check is numbered other = record {
  wants = is.wants;
  fresh = fresh_as w.kept (caller_name s call.caller) asked (demand_of call.request) check numbered other;
}

-- and one that is a repeat is answered by what is kept
pub repeats_as : (s : Settings) (w : ServiceWorld) (moment : ℤ) (asked : Asked) (call : Call) (place : ℕ) (answer : Answer) → IsCallOf s asked call
    → (at : (reply : KeptReply) × IsRepeatOf w.kept (caller_name s call.caller) asked (demand_of call.request) reply
    × (slice_get w.kept place ≡ Some reply))
    → answer ≡ kept_answer (scene_of s w) at.0.answer → Repeats s w moment asked w answer
repeats_as s w moment asked call place answer is at told = record {
  caller = call.caller;
  request = call.request;
  wants = is.wants;
  reply = at.0;
  repeated = at.1;
  same = refl;
  answer_is = told;
}

told_after : (s : Settings) (w between after : ServiceWorld) (e : Entry) → CatchesUp w e.moment between → (told : Told)
    → IsAnswered s between e.moment e.asked told after → Tells s w e told after
told_after s w between after e due (Made answer) answered = record { between = between; advances = due; judged = answered }
told_after s w between after e due (Instead Memory) answered = inr (subst (CatchesUp w e.moment) (sym answered) due)
told_after s w between after e due (Instead Unavailable) answered = absurd answered
told_after s w between after e due (Instead Spent) answered = absurd answered

-- what is answered after what was due is served
pub serves_after : (s : Settings) (w between after : ServiceWorld) (seat : ℕ) (now moment : ℤ) (asked : Asked) (told : Told) (rose : Bool)
    → moment ≡ moment_of w.rows.last now → IsCallMoment moment → w.rows.last ≤ℤ moment → CatchesUp w moment between
    → IsAnswered s between moment asked told after → Leads s w (entry_at w seat now asked told rose) after
serves_after s w between after seat now moment asked told rose is call later due answered =
    let e : Entry = entry_at w seat now asked told rose in
    record {
      moment = subst IsCallMoment is call;
      later = subst (λ (t : ℤ). w.rows.last ≤ℤ t) is later;
      tells = told_after s w between after e (subst (λ (t : ℤ). CatchesUp w t between) is due) told
          (subst (λ (t : ℤ). IsAnswered s between t asked told after) is answered);
    }

-- want of memory leaves the world, and is served
pub serves_nothing : (s : Settings) (w after : ServiceWorld) (seat : ℕ) (now moment : ℤ) (asked : Asked) (rose : Bool) → moment ≡ moment_of w.rows.last now
    → IsCallMoment moment → w.rows.last ≤ℤ moment → after ≡ w → Leads s w (entry_at w seat now asked (Instead Memory) rose) after
serves_nothing s w after seat now moment asked rose is call later same = record {
  moment = subst IsCallMoment is call;
  later = subst (λ (t : ℤ). w.rows.last ≤ℤ t) is later;
  tells = inl same;
}
