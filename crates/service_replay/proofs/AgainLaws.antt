-- How a recorded request is done again, and why it is out of place.
use Rattle.std.proofs.Common.{◌≡◌, ◌+◌, ℕ, ℤ, List, Option, Some, None, Result, Ok, Err, refl, sym, ap, ◌∙◌, subst}
use Rattle.std.specs.Prelude.{OnOk}
use Rattle.std.proofs.lemmas.Option.{none-some}
use Rattle.kept_replies.specs.declared.reply.KeptReply.{KeptReply}
use Rattle.kept_replies.specs.Kept.{KeptState}
use Rattle.call_forms.specs.declared.asked.Asked.{Asked}
use Rattle.service_core.specs.MessageForms.declared.requests.Method.{Method}
use Rattle.service_core.specs.MessageForms.declared.requests.Request.{Request}
use Rattle.service_core.specs.MessageForms.Methods.{name_of, service_of}
use Rattle.service_core.specs.MessageForms.Reading.{Asks}
use Rattle.service_core.proofs.MessageForms.FormLaws.{asked_is_of_form}
use Rattle.recorded_calls.specs.Commands.{CallSaid, IsCallSayable}
use Rattle.service_core.specs.InvocationWorld.World.{World}
use Rattle.service_core.specs.RequestDemands.declared.numbers.NumberCheck.{NumberCheck}
use Rattle.service_core.specs.RequestDemands.declared.numbers.NumberCheck.TheVariants.{New, Repeat, Reused}
use Rattle.service_core.specs.RequestRules.Again.{IsRight, IsUnused}
use Rattle.service_core.specs.RequestRules.Held.{Held}
use Rattle.service_core.specs.RequestDemands.Numbered.{asked_again}
use Rattle.service_core.specs.RequestDemands.Demands.{Demand, demand_of}
use Rattle.service_core.specs.RequestDemands.Numbered.{IsNumbered}
use Rattle.service_core.proofs.RequestDemands.NumberLaws.{number_is_word}
use Rattle.service_effects.specs.Refused.{IsUnrefused}
use Rattle.service_effects.specs.Service.{ServiceWorld, recorded}
use Rattle.service_core.specs.RequestEffects.declared.keeping.Numbered.{Numbered}
use Rattle.service_core.specs.RequestEffects.Keeps.{kept_of, numbered_of, with_kept}
use Rattle.service_core.specs.RequestEffects.Places.{held_in}
use Rattle.service_core.specs.RequestEffects.Planned.{IsSafe}
use Rattle.service_core.proofs.RequestEffects.KeepLaws.{numbered_is}
use Rattle.service_replay.specs.declared.replaying.ReplayFault.{ReplayFault}
use Rattle.service_replay.specs.declared.replaying.ReplayFault.TheVariants.{OutOfPlace, Memory}
use Rattle.service_core.specs.Again.{Again, IsFreeFor, IsPreparedAgain, again_of}
use Rattle.service_core.specs.CoreState.{CoreState, IsRoomier, PlanState, world_in}
use Rattle.service_core.specs.Plans.{Carries}
use Rattle.service_core.specs.declared.plan.CallRecord.{CallRecord}
use Rattle.service_effects.specs.Storing.{IsStorable}
use Rattle.service_replay.specs.Replay.{ActsAgain, IsRefused, effect_again, length_again}
use Rattle.service_replay.specs.Replaying.{IsActedAgain, IsDoneAgain}
use Rattle.service_replay.proofs.ReplayLaws.{free_unused}
use Rattle.service_core.proofs.PlanLaws.{same_world}

-- ---- refusals

pub refused_as : (Leads : ServiceWorld → Type 0) (r : Result Unit ReplayFault)
    → (r ≡ Err OutOfPlace → (next : ServiceWorld) → Leads next → ⊥) → IsRefused Leads r
refused_as Leads (Ok done) never = tt
refused_as Leads (Err OutOfPlace) never = never refl
refused_as Leads (Err Memory) never = tt

pub same_fault : (fault other : ReplayFault) (a b : Result Unit ReplayFault) → a ≡ Err fault → b ≡ Err other → a ≡ b → fault ≡ other
same_fault fault other a b this that e = cc

pub refused_more : (Leads Also : ServiceWorld → Type 0) (r : Result Unit ReplayFault) → ((next : ServiceWorld) → Also next → Leads next)
    → IsRefused Leads r → IsRefused Also r
refused_more Leads Also (Ok done) less refused = tt
refused_more Leads Also (Err OutOfPlace) less refused = λ next also. refused next (less next also)
refused_more Leads Also (Err Memory) less refused = tt

-- ---- numbers

pub unused_in : (inside keeps : KeptState) (name : List ℕ) (asked : Asked) (d : Demand) (check : NumberCheck) → inside ≡ keeps
    → IsNumbered inside.kept name asked d check → check ≡ New → IsUnused keeps.kept name d
unused_in inside keeps name asked d check same numbered is =
    subst (λ (k : KeptState). IsUnused k.kept name d) same (subst (IsNumbered inside.kept name asked d) is numbered)

pub repeat_is_used : (inside keeps : KeptState) (name : List ℕ) (asked : Asked) (d : Demand) (check : NumberCheck) (place : ℕ)
    → inside ≡ keeps → IsNumbered inside.kept name asked d check → check ≡ Repeat place → IsUnused keeps.kept name d → ⊥
repeat_is_used inside keeps name asked d check place same numbered is unused =
    let at = subst (IsNumbered inside.kept name asked d) is numbered in
    none-some at.0 (sym (subst (λ (k : KeptState). IsUnused k.kept name d) (sym same) unused) ∙ at.1.found)

pub reused_is_used : (inside keeps : KeptState) (name : List ℕ) (asked : Asked) (d : Demand) (check : NumberCheck) → inside ≡ keeps
    → IsNumbered inside.kept name asked d check → check ≡ Reused → IsUnused keeps.kept name d → ⊥
reused_is_used inside keeps name asked d check same numbered is unused =
    let at = subst (IsNumbered inside.kept name asked d) is numbered in
    none-some at.0 (sym (subst (λ (k : KeptState). IsUnused k.kept name d) (sym same) unused) ∙ at.1.found)

pub free_again : (kept : List KeptReply) (name : List ℕ) (asked : Asked) (request : Request) (numbered : Option Numbered)
    → Asks asked.service asked.method asked.body request → IsUnused kept name (demand_of request)
    → numbered ≡ numbered_of asked (demand_of request) → IsFreeFor kept name numbered
free_again kept name asked request None asks unused is = tt
free_again kept name asked request (Some numbered) asks unused is =
    let at = numbered_is asked (demand_of request) numbered (sym is) in (
      number_is_word request numbered.number (asked_is_of_form asked.service asked.method asked.body request asks) at.0,
      free_unused kept name (demand_of request) numbered.number at.0 unused,
    )

-- ---- what is right is safe

pub right_is_safe : (w : World) (held : Held) (call : CallSaid) (method : Method) (request : Request)
    → IsRight w.invocations held call.moment (demand_of request) → Asks (service_of method) (name_of method) call.body request
    → IsCallSayable call → IsSafe w call.moment call.caller request
right_is_safe w held call method request right asks sayable = record {
  active = right.active;
  reach = right.reach;
  itself = right.apart;
  free = right.free;
  forms = asked_is_of_form (service_of method) (name_of method) call.body request asks;
  name_is = sayable.caller;
}

-- ---- what was prepared and carried out

-- what was prepared and carried out was done again
pub done_again : (old mid : CoreState) (moment : ℤ) (name : List ℕ) (said : CallRecord) (request : Request) (plan : PlanState)
    (after : ServiceWorld) → IsRoomier old mid → IsPreparedAgain mid (again_of old moment name said request) (Some plan)
    → Carries (world_in mid) plan after → IsActedAgain (world_in old) moment name said request after
done_again old mid moment name said request plan after roomier prepared carries =
    let a : Again = again_of old moment name said request in
    let made = subst (λ (p : PlanState). Carries (world_in mid) p after) prepared.1.2 carries in
    let done : IsDoneAgain (world_in mid) moment name said a.effect after = record {
      room = prepared.0;
      store = prepared.1.0;
      changes = prepared.1.1;
      made = made.made;
      kept = made.kept;
      stored = made.stored;
    } in
    subst (λ (w : ServiceWorld). IsDoneAgain w moment name said a.effect after) (same_world old mid roomier) done

-- and where nothing was prepared nothing can be
pub never_again : (old mid : CoreState) (moment : ℤ) (name : List ℕ) (said : CallRecord) (request : Request) (next : ServiceWorld)
    → IsRoomier old mid → IsPreparedAgain mid (again_of old moment name said request) None
    → IsActedAgain (world_in old) moment name said request next → ⊥
never_again old mid moment name said request next roomier prepared done =
    let a : Again = again_of old moment name said request in
    done.changes
    (prepared (subst (λ (w : ServiceWorld). IsUnrefused (recorded w) a.effect) (sym (same_world old mid roomier)) done.room)
    (subst (λ (w : ServiceWorld). IsStorable w.stored said.length) (sym (same_world old mid roomier)) done.store))

-- what was done again was acted on again
pub acts_from : (w : ServiceWorld) (call : CallSaid) (method : Method) (said : CallRecord) (request : Request) (after : ServiceWorld)
    → IsUnused w.kept call.caller (demand_of request) → IsRight w.rows.invocations (held_in (recorded w)) call.moment (demand_of request)
    → said.numbered ≡ numbered_of (asked_again method call.body) (demand_of request) → said.length ≡ length_again call
    → IsActedAgain w call.moment call.caller said request after → ActsAgain w call method request after
acts_from w call method said request after unused right is long done = record {
  unused = unused;
  right = right;
  room = done.room;
  store = subst (IsStorable w.stored) long done.store;
  changes = done.changes;
  made = done.made;
  kept = done.kept
      ∙ ap (λ (n : Option Numbered). with_kept w.kept (kept_of (recorded w) call.caller n (effect_again w call request))) is;
  stored = done.stored ∙ ap (λ (n : ℕ). w.stored + n) long;
}

pub ok_more : (r : Result Unit ReplayFault) (P Q : Type 0) → (P → Q) → OnOk r P → OnOk r Q
ok_more (Ok done) P Q more h = more h
ok_more (Err fault) P Q more h = tt

-- what is acted on again is done again
pub plans_again : (w : ServiceWorld) (call : CallSaid) (method : Method) (said : CallRecord) (request : Request) (after : ServiceWorld)
    → said.numbered ≡ numbered_of (asked_again method call.body) (demand_of request) → said.length ≡ length_again call
    → ActsAgain w call method request after → IsActedAgain w call.moment call.caller said request after
plans_again w call method said request after is long again = record {
  room = again.room;
  store = subst (IsStorable w.stored) (sym long) again.store;
  changes = again.changes;
  made = again.made;
  kept = again.kept
      ∙ ap (λ (n : Option Numbered). with_kept w.kept (kept_of (recorded w) call.caller n (effect_again w call request))) (sym is);
  stored = again.stored ∙ ap (λ (n : ℕ). w.stored + n) (sym long);
}
