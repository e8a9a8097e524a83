-- A recorded command leads to one world, and the command of what was accepted to the world that it left.
use Rattle.std.proofs.Common.{◌≡◌, ◌≢◌, ◌+◌, ℕ, ◌^◌, ◌<◌, ℤ, Bool, true, List, [], ◌∷◌, length, Option, Some, None, option_map, refl, sym, ap, ◌∙◌, subst, inl, inr, rules}
use Rattle.std.specs.List.{find}
use Rattle.std.specs.Str.{bytes_eq}
use Rattle.std.specs.Cmp.Lexicographic.{bytes_decides}
use Rattle.std.proofs.lemmas.Bool.{and_parts, cases_Bool, cond-false, cond-true}
use Rattle.std.proofs.lemmas.Option.{none-some, same_Some}
use Rattle.kept_replies.specs.declared.reply.KeptReply.{KeptReply}
use Rattle.kept_replies.specs.Kept.{IsFree, place_for}
use Rattle.kept_replies.proofs.FirstLemmas.{none_is_free, place_holds_for}
use Rattle.call_forms.specs.declared.asked.Asked.{Asked}
use Rattle.service_core.specs.MessageForms.declared.requests.Method.{Method}
use Rattle.service_core.specs.MessageForms.declared.requests.Request.{Request}
use Rattle.service_core.specs.MessageForms.declared.requests.Request.TheVariants as asks
use Rattle.service_core.specs.MessageForms.Methods.{every_method, is_called, method_asked, method_of, name_of, service_of}
use Rattle.service_core.specs.MessageForms.Reading.{Asks}
use Rattle.service_core.proofs.MessageForms.MethodLaws.{method_named}
use Rattle.service_core.proofs.MessageForms.RequestLaws.{one_request_asked}
use Rattle.recorded_calls.specs.declared.command.CallKind.{CallKind}
use Rattle.recorded_calls.specs.declared.command.CallKind.TheVariants as kind
use Rattle.recorded_calls.specs.Commands.{CallSaid, Said, called, ticked}
use Rattle.recorded_calls.proofs.CommandLaws.{one_command}
use Rattle.service_core.specs.RequestRules.declared.rules.Rule.TheVariants as rule
use Rattle.service_core.specs.RequestRules.Again.{IsRight, IsUnused}
use Rattle.service_core.specs.RequestDemands.Numbered.{asked_again}
use Rattle.service_core.specs.RequestRules.Broken.{IsBroken, RequestIdReused, order}
use Rattle.service_core.specs.RequestDemands.Demands.{Demand, demand_of}
use Rattle.service_core.specs.RequestDemands.Numbered.{IsRepeatOf, digest_of, kept_for}
use Rattle.service_core.specs.RequestDemands.Order.{IsUnbroken}
use Rattle.service_core.specs.RequestDemands.Settings.{HasNames, Settings, caller_name}
use Rattle.service_core.proofs.RequestDemands.Judged.{IsAmong, unbroken_each}
use Rattle.service_core.proofs.RequestDemands.NumberLaws.{kept_there, unnumbered}
use Rattle.service_core.proofs.RequestRules.ReuseLaws.{found_digest}
use Rattle.service_core.proofs.RequestDemands.PolicyLaws.{caller_is_there, name_is}
use Rattle.service_effects.specs.declared.effect.Effect.TheVariants as does
use Rattle.service_effects.specs.Effects.{with_effect}
use Rattle.service_effects.specs.Fitting.{IsTimely}
use Rattle.service_effects.specs.Service.{Recorded, ServiceWorld, recorded}
use Rattle.service_effects.specs.Storing.{IsStorable}
use Rattle.service_effects.proofs.EffectLaws.{one_settling}
use Rattle.service_effects.proofs.StoringLaws.{bytes_of_change}
use Rattle.service_core.specs.RequestDemands.Understood.{length_for}
use Rattle.service_core.specs.RequestEffects.declared.keeping.Numbered.{Numbered}
use Rattle.service_core.specs.RequestEffects.Effects.{effect_of}
use Rattle.service_core.specs.RequestEffects.Keeps.{kept_of, numbered_of, with_kept}
use Rattle.service_core.specs.RequestEffects.Places.{held_in}
use Rattle.service_core.specs.Step.{Acts, IsAccepted, bytes_for, case_in, effect_for, keep_for}
use Rattle.service_replay.specs.Replay.{ActsAgain, IsKindOf, RecordedIsReplayed, Replays, ReplaysAreUnique, ReplaysCall, ReplaysSaid, TickIsReplayed, command_of, effect_again, keep_again, length_again, recorded_method}
use Rattle.service_core.proofs.ClearedLaws.{IsCleared, accepted_found, safe, unused}
use Rattle.service_effects.proofs.RoomLaws.{same_parts}
use Rattle.service_core.proofs.UniqueLaws.{one_between}

-- ---- one world

one_act : (w : ServiceWorld) (call : CallSaid) (method : Method) (request : Request) (v x : ServiceWorld)
    → ActsAgain w call method request v → ActsAgain w call method request x → v ≡ x
one_act w call method request v x this that =
    same_parts v x
    (one_settling call.moment (with_effect call.moment (effect_again w call request) w.rows) v.rows x.rows this.made.rows that.made.rows)
    (this.made.results ∙ sym that.made.results) (this.made.exonerations ∙ sym that.made.exonerations)
    (this.made.artifacts ∙ sym that.made.artifacts) (this.kept ∙ sym that.kept) (this.stored ∙ sym that.stored)

-- what a recorded call asks for by the method that it was for
pub asks_as : (w : ServiceWorld) (call : CallSaid) (method : Method) (next : ServiceWorld) → recorded_method call.kind ≡ Some method
    → (q : ReplaysCall w call next) → Asks (service_of method) (name_of method) call.body q.request
asks_as w call method next for_method q =
    subst (λ (m : Method). Asks (service_of m) (name_of m) call.body q.request)
    (same_Some q.method method (sym q.for_method ∙ for_method)) q.asks

-- and how it is acted on, by the request for which it asks
pub acts_as : (w : ServiceWorld) (call : CallSaid) (method : Method) (request : Request) (next : ServiceWorld)
    → recorded_method call.kind ≡ Some method → Asks (service_of method) (name_of method) call.body request
    → ReplaysCall w call next → ActsAgain w call method request next
acts_as w call method request next for_method asks q =
    subst (λ (x : Request). ActsAgain w call method x next)
    (one_request_asked (service_of method) (name_of method) call.body q.request request (asks_as w call method next for_method q) asks)
    (subst (λ (m : Method). ActsAgain w call m q.request next) (same_Some q.method method (sym q.for_method ∙ for_method)) q.acts)

one_call : (w : ServiceWorld) (call : CallSaid) (v x : ServiceWorld) → ReplaysCall w call v → ReplaysCall w call x → v ≡ x
one_call w call v x this that =
    one_act w call that.method that.request v x (acts_as w call that.method that.request v that.for_method that.asks this) that.acts

one_said : (w : ServiceWorld) (said : Said) (v x : ServiceWorld) → ReplaysSaid w said v → ReplaysSaid w said x → v ≡ x
one_said w (ticked moment) v x this that = one_between w moment v x this.advances that.advances
one_said w (called call) v x this that = one_call w call v x this that

pub one_replay : ReplaysAreUnique
one_replay w command v x this that =
    one_said w that.said v x
    (subst (λ (s : Said). ReplaysSaid w s v) (one_command command this.said that.said this.is_command that.is_command) this.leads) that.leads

-- ---- ticks

pub tick_is_replayed : TickIsReplayed
tick_is_replayed w moment after call later due advances = record {
  said = ticked moment;
  is_command = record { sayable = call; form = refl };
  leads = record { later = later; due = due; advances = advances };
}

-- ---- numbers

-- for a number that is unused nothing is kept
pub free_unused : (kept : List KeptReply) (name : List ℕ) (d : Demand) (number : List ℕ) → d.number ≡ Some number → IsUnused kept name d
    → IsFree kept name number
free_unused kept name d number e unused = at (place_for name number kept) refl
  where
    at : (o : Option ℕ) → place_for name number kept ≡ o → IsFree kept name number
    at None found = none_is_free name number kept found
    at (Some place) found =
        let there = place_holds_for name number kept place found in
        absurd (none-some there.0 (sym unused ∙ (kept_there kept name d number place e found ∙ there.1)))

unused_at : (kept : List KeptReply) (name : List ℕ) (asked : Asked) (d : Demand) (number : Option (List ℕ)) (found : Option KeptReply)
    → d.number ≡ number → kept_for kept name d ≡ found → ((k : KeptReply) → ¬ IsRepeatOf kept name asked d k)
    → IsUnbroken (RequestIdReused kept name asked d) → IsUnused kept name d
unused_at kept name asked d None found e f fresh unbroken = unnumbered kept name d e
unused_at kept name asked d (Some number) None e f fresh unbroken = f
unused_at kept name asked d (Some number) (Some reply) e f fresh unbroken =
    absurd (found_digest kept name asked d number reply e f fresh unbroken)

-- ---- methods

found_passes : {A : Type 0} → (p : A → Bool) (xs : List A) (x : A) → find p xs ≡ Some x → p x ≡ true
found_passes p [] x e = absurd (none-some x e)
found_passes {A} p (y ∷ xs) x e =
    elim (cases_Bool (p y)) [
      | inl is ↦
          let same : y ≡ x = same_Some y x (sym (cond-true (p y) (Some y) (find p xs) is) ∙ e) in
          subst (λ (z : A). p z ≡ true) same is
      | inr not ↦ found_passes p xs x (sym (cond-false (p y) (Some y) (find p xs) not) ∙ e)
    ]

-- a method that is found is called so
called_so : (service name : List ℕ) (m : Method) → method_of service name ≡ Some m → (service_of m ≡ service) × (name_of m ≡ name)
unfolding method_of
called_so service name m e =
    let parts = and_parts (bytes_eq (service_of m) service) (bytes_eq (name_of m) name)
    (found_passes (is_called service name) every_method m e) in
    ((bytes_decides (service_of m) service).0 parts.0, (bytes_decides (name_of m) name).0 parts.1)

-- what is asked again has the digest of what was asked
same_digest : (asked : Asked) (m : Method) → method_of asked.service asked.method ≡ Some m → digest_of (asked_again m asked.body) ≡ digest_of asked
same_digest asked m e =
    let names = called_so asked.service asked.method m e in
    let Of : List ℕ → List ℕ → Asked = λ service name.
    record { bearer = None; update_token = None; service = service; method = name; body = asked.body } in
    ap (λ (x : List ℕ). digest_of (Of x (name_of m))) names.0 ∙ ap (λ (x : List ℕ). digest_of (Of asked.service x)) names.1

same_number : (asked : Asked) (m : Method) (d : Demand) → method_of asked.service asked.method ≡ Some m
    → numbered_of (asked_again m asked.body) d ≡ numbered_of asked d
same_number asked m d e =
    ap (λ (x : List ℕ). option_map (λ number. record { number = number; digest = x }) d.number) (same_digest asked m e)

-- what changes something is of a method that is recorded
kind_there : (w : Recorded) (moment : ℤ) (name : List ℕ) (q : Request) → effect_of w moment name q ≢ does.Nothing
    → (k : CallKind) × (recorded_method k ≡ Some (method_asked q))
kind_there w moment name (asks.CreateInvocation q) changes = (kind.CreateInvocation, refl)
kind_there w moment name (asks.UpdateInvocation q) changes = (kind.UpdateInvocation, refl)
kind_there w moment name (asks.FinalizeInvocation q) changes = (kind.FinalizeInvocation, refl)
kind_there w moment name (asks.UpdateIncludedInvocations q) changes = (kind.UpdateIncludedInvocations, refl)
kind_there w moment name (asks.BatchCreateTestResults q) changes = (kind.BatchCreateTestResults, refl)
kind_there w moment name (asks.BatchCreateTestExonerations q) changes = (kind.BatchCreateTestExonerations, refl)
kind_there w moment name (asks.BatchCreateArtifacts q) changes = (kind.BatchCreateArtifacts, refl)
kind_there w moment name _ changes = absurd (changes refl)

-- ---- what was accepted

too_many_among : IsAmong rule.TooMany order
too_many_among = search rules

right_as : (s : Settings) (w : ServiceWorld) (moment : ℤ) (asked : Asked) (caller : ℕ) (request : Request) → HasNames s
    → IsAccepted s w moment asked caller request → IsRight w.rows.invocations (held_in (recorded w)) moment (demand_of request)
right_as s w moment asked caller request names accepted =
    let cleared : IsCleared s w moment asked caller request = record { new = accepted.new; judged = accepted.judged } in
    let safely = safe s w moment asked caller request names cleared in
    record {
      found = accepted_found s w moment asked caller request accepted;
      active = safely.active;
      reach = safely.reach;
      apart = safely.itself;
      few = unbroken_each (IsBroken (case_in s w moment asked caller) (demand_of request)) order accepted.judged rule.TooMany too_many_among;
      free = safely.free;
    }

replayed_as : (s : Settings) (w : ServiceWorld) (moment : ℤ) (asked : Asked) (caller : ℕ) (request : Request) (after : ServiceWorld) (k : CallKind)
    → HasNames s → IsTimely w.rows moment → length asked.body < 2 ^ 32 → IsAccepted s w moment asked caller request
    → effect_for s w moment caller request ≢ does.Nothing → Acts s w moment asked caller request after → IsKindOf k asked
    → Replays w (command_of k moment (caller_name s caller) asked) after
replayed_as s w moment asked caller request after k names timely short accepted changes acts of_kind =
    let name = caller_name s caller in
    let wants = accepted.new.wants in
    let method : Method = wants.asks.method in
    let call : CallSaid = record { kind = k; moment = moment; caller = name; body = asked.body } in
    let cleared : IsCleared s w moment asked caller request = record { new = accepted.new; judged = accepted.judged } in
    let d : Demand = demand_of request in
    let bytes : bytes_for s w moment asked caller request ≡ length_again call =
    bytes_of_change (effect_for s w moment caller request) (length_for s asked caller) changes in
    let keeps : keep_for s w moment asked caller request ≡ keep_again w call method request =
    ap (λ (n : Option Numbered). kept_of (recorded w) name n (effect_for s w moment caller request))
    (sym (same_number asked method d wants.asks.named)) in
    record {
      said = called call;
      is_command = record {
        sayable = record {
          moment = timely.call;
          caller = name_is s caller names (caller_is_there s asked.bearer caller wants.caller_is);
          body = short;
        };
        form = refl;
      };
      leads = record {
        later = timely.later;
        quiet = timely.quiet;
        method = method;
        for_method = of_kind.for_method ∙ (sym of_kind.named ∙ wants.asks.named);
        request = request;
        asks = record {
          method = method;
          named = method_named method;
          value = wants.asks.value;
          json = wants.asks.json;
          no_fault = wants.asks.no_fault;
          meant = wants.asks.meant;
        };
        acts = record {
          unused = unused_at w.kept name asked d d.number (kept_for w.kept name d) refl refl accepted.new.fresh
              (unused s w moment asked caller request cleared);
          right = right_as s w moment asked caller request names accepted;
          room = accepted.room;
          store = subst (IsStorable w.stored) bytes accepted.store;
          changes = changes;
          made = acts.made;
          kept = acts.kept ∙ ap (with_kept w.kept) keeps;
          stored = acts.stored ∙ ap (λ (n : ℕ). w.stored + n) bytes;
        };
      };
    }

-- what was accepted and changes something has a kind
pub kind_is_there : (s : Settings) (w : ServiceWorld) (moment : ℤ) (asked : Asked) (caller : ℕ) (request : Request)
    → IsAccepted s w moment asked caller request → effect_for s w moment caller request ≢ does.Nothing → (k : CallKind) × IsKindOf k asked
kind_is_there s w moment asked caller request accepted changes =
    let asks = accepted.new.wants.asks in
    let found = kind_there (recorded w) moment (caller_name s caller) request changes in (
      found.0,
      record {
        method = method_asked request;
        for_method = found.1;
        named = asks.named ∙ ap (λ (m : Method). Some m) (sym asks.meant.0);
      },
    )

pub recorded_is_replayed : RecordedIsReplayed
recorded_is_replayed s w moment asked caller request after names timely short accepted changes acts = record {
  some = kind_is_there s w moment asked caller request accepted changes;
  replays = λ k of_kind.
      replayed_as s w moment asked caller request after k names timely short accepted changes acts of_kind;
}
