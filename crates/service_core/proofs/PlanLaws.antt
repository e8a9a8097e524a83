-- What a call was planned to is what its request comes to.
use Rattle.std.proofs.Common.{◌≡◌, ◌≢◌, ◌+◌, ◌^◌, ◌<◌, ℕ, ℤ, List, Option, Some, None, refl, sym, ap, ◌∙◌, subst, inr, arith}
use Rattle.std.specs.Prelude.{IfSome}
use Rattle.std.proofs.lemmas.Option.{same_Some}
use Rattle.kept_replies.specs.declared.reply.KeptReply.{KeptReply}
use Rattle.call_forms.specs.declared.asked.Asked.{Asked}
use Rattle.call_forms.specs.declared.forms.Answer.{Answer}
use Rattle.call_forms.specs.declared.forms.Refusal.{Refusal}
use Rattle.request_effects.specs.MessageForms.declared.requests.Request.{Request}
use Rattle.invocation_world.specs.World.{World}
use Rattle.invocation_world.proofs.ValidFacts.{valid_settles}
use Rattle.request_effects.specs.RequestDemands.Demands.{demand_of}
use Rattle.request_effects.specs.RequestDemands.Settings.{Settings, caller_name}
use Rattle.request_effects.specs.RequestDemands.Understood.{length_for}
use Rattle.service_effects.specs.declared.effect.Effect.{Effect}
use Rattle.service_effects.specs.declared.effect.Effect.TheVariants as does
use Rattle.request_effects.specs.Answers.{Answers}
use Rattle.service_effects.specs.Effects.{Makes}
use Rattle.service_effects.specs.Fitting.{IsTimely}
use Rattle.service_effects.specs.Fitting as effects
use Rattle.service_effects.specs.Planned.{refusal_of}
use Rattle.service_effects.specs.Refused.{EffectRefused, IsUnrefused}
use Rattle.service_effects.specs.Storing.{IsStorable, StoreRefused, bytes_of}
use Rattle.service_effects.proofs.StoringLaws.{bytes_of_change, storable_fits}
use Rattle.service_effects.specs.declared.faults.EffectFault.{EffectFault}
use Rattle.request_effects.specs.Effects.{effect_of}
use Rattle.request_effects.specs.Keeps.{kept_of, numbered_of, with_kept}
use Rattle.request_effects.specs.Shows.{shows_of}
use Rattle.service_effects.proofs.EffectLaws.{effects_change}
use Rattle.service_effects.proofs.RefusedLaws.{unrefused}
use Rattle.service_effects.proofs.RoomLaws.{same_parts, same_recorded}
use Rattle.request_effects.proofs.KeepLaws.{kept_is, nothing_kept}
use Rattle.service_core.specs.declared.plan.Prepared.{Prepared}
use Rattle.service_core.specs.declared.plan.Prepared.TheVariants as prepared
use Rattle.request_effects.specs.declared.keeping.Numbered.{Numbered}
use Rattle.kept_replies.specs.Kept.{IsFree, IsWord, KeptState}
use Rattle.service_core.specs.Again.{Again, IsDoneBy, IsFreeFor, IsPreparedAgain}
use Rattle.service_core.specs.CoreState.{CoreState, IsRoomier, PlanState, world_in}
use Rattle.service_core.specs.Planning.{ComesTo}
use Rattle.service_core.specs.Plans.{CanKeep, Carries, Fits, IsPlanOf, IsPrepared}
use Rattle.service_effects.specs.Service.{Recorded, ServiceWorld, recorded}
use Rattle.service_effects.specs.States.{recorded_in}
use Rattle.service_effects.specs.States as tables
use Rattle.service_effects.specs.declared.tables.Tables.{Tables}
use Rattle.service_core.specs.Step.{IsTold, Performs, bytes_for, effect_for, keep_for, performed, scene_of}
use Rattle.service_core.proofs.ClearedLaws.{IsCleared, kept_free}

-- what is to be kept can be kept where there is room
can_keep : (s : Settings) (core : CoreState) (moment : ℤ) (asked : Asked) (caller : ℕ) (request : Request) (keep : Option KeptReply)
    → IsCleared s (world_in core) moment asked caller request → keep_for s (world_in core) moment asked caller request ≡ keep
    → IfSome keep (λ reply. 0 < core.keeps.room) → CanKeep core.keeps keep
can_keep s core moment asked caller request None h is room = tt
can_keep s core moment asked caller request (Some reply) h is room =
    let free = kept_free s (world_in core) moment asked caller request reply h is in (room, free.0, free.1)

-- so can what is kept again
pub can_keep_again : (w : Recorded) (name : List ℕ) (numbered : Option Numbered) (effect : Effect) (keeps : KeptState) (keep : Option KeptReply)
    → keep ≡ kept_of w name numbered effect → IsFreeFor keeps.kept name numbered → IfSome keep (λ reply. 0 < keeps.room) → CanKeep keeps keep
can_keep_again w name numbered effect keeps None is free room = tt
can_keep_again w name numbered effect keeps (Some reply) is free room =
    let k = kept_is w name numbered effect reply (sym is) in
    let at = subst (IsFreeFor keeps.kept name) k.numbered_is free in (
      room,
      subst IsWord (sym k.number) at.0,
      subst (λ (c : List ℕ). IsFree keeps.kept c reply.number) (sym k.caller) (subst (IsFree keeps.kept name) (sym k.number) at.1),
    )

-- nothing is kept of what does nothing
pub kept_same : (s : Settings) (w : ServiceWorld) (moment : ℤ) (asked : Asked) (caller : ℕ) (request : Request)
    → effect_for s w moment caller request ≡ does.Nothing → w.kept ≡ with_kept w.kept (keep_for s w moment asked caller request)
kept_same s w moment asked caller request is =
    let name = caller_name s caller in
    let numbered = numbered_of asked (demand_of request) in
    sym (ap (with_kept w.kept) (ap (kept_of (recorded w) name numbered) is ∙ nothing_kept (recorded w) name numbered))

-- and nothing is recorded of it
pub stored_same : (s : Settings) (w : ServiceWorld) (moment : ℤ) (asked : Asked) (caller : ℕ) (request : Request)
    → effect_for s w moment caller request ≡ does.Nothing → w.stored ≡ w.stored + bytes_for s w moment asked caller request
stored_same s w moment asked caller request is =
    subst (λ (e : Effect). w.stored ≡ w.stored + bytes_of e (length_for s asked caller)) (sym is) (omega arith)

-- what is storable is counted in 64 bits
counted : (stored length : ℕ) (effect : Effect) → effect ≢ does.Nothing → IsStorable stored (bytes_of effect (20 + length))
    → stored + bytes_of effect (20 + length) < 2 ^ 64
counted stored length effect changes storable =
    let is = bytes_of_change effect (20 + length) changes in
    let fits = storable_fits stored (bytes_of effect (20 + length)) storable (omega (arith, is)) in
    omega (arith, fits)

pub comes_prepared : (s : Settings) (core : CoreState) (moment : ℤ) (asked : Asked) (caller : ℕ) (request : Request) (p : Prepared)
    → IsTimely core.held.world.world moment → IsCleared s (world_in core) moment asked caller request
    → ComesTo s core moment asked caller request p → IsPrepared s core moment asked p
comes_prepared s core moment asked caller request (prepared.Refused answer) timely h comes = record {
  refusal = comes.0;
  is_refusal = inr (caller, request, h.new, inr (h.judged, comes.1));
  same = refl;
  answer_is = comes.2;
}
comes_prepared s core moment asked caller request (prepared.Repeated answer) timely h comes = absurd comes
comes_prepared s core moment asked caller request (prepared.Answered answer) timely h comes =
    let w : Recorded = recorded_in core.held in
    let effect : Effect = effect_for s (world_in core) moment caller request in
    let same : Makes moment does.Nothing w w =
    record { rows = valid_settles moment w.rows timely.valid; results = refl; exonerations = refl; artifacts = refl } in
    let made : Makes moment effect w w = subst (λ (e : Effect). Makes moment e w w) (sym comes.3.0) same in
    let room = unrefused core.held moment effect comes.0.suits comes.0.room in
    record {
      caller = caller;
      request = request;
      accepted = record { new = h.new; judged = h.judged; room = room; store = comes.2 };
      acts = record {
        made = made;
        kept = kept_same s (world_in core) moment asked caller request comes.3.0;
        stored = stored_same s (world_in core) moment asked caller request comes.3.0;
      };
      answers = comes.3.1 w made;
    }
comes_prepared s core moment asked caller request (prepared.Change plan) timely h comes =
    let w : Recorded = recorded_in core.held in
    let effect : Effect = effect_for s (world_in core) moment caller request in
    let room = unrefused core.held moment effect comes.0.suits comes.0.room in
    let shown = comes.3.1 in
    subst (λ (p : PlanState). IsPlanOf s (world_in core) moment asked p × Fits core p) (sym shown.1) (
      record {
        caller = caller;
        request = request;
        accepted = record { new = h.new; judged = h.judged; room = room; store = comes.2 };
        answer = shown.0;
        answer_is = refl;
        acts = λ after carries. (record { made = carries.made; kept = carries.kept; stored = carries.stored }, shown.2 (recorded after) carries.made);
        changes = λ after carries same.
            (effects_change w (recorded after) moment effect timely comes.0.suits room carries.made).1 comes.3.0
            (ap recorded same);
      },
      record {
        made = refl;
        can = comes.0;
        keep = can_keep s core moment asked caller request (keep_for s (world_in core) moment asked caller request) h refl comes.1;
        counted = counted core.stored _ effect comes.3.0 comes.2;
      },
    )

-- in a core with another room
pub prepared_in : (s : Settings) (old new : CoreState) (moment : ℤ) (asked : Asked) (caller : ℕ) (request : Request) (p : Prepared)
    → world_in new ≡ world_in old → IsTimely old.held.world.world moment → IsCleared s (world_in old) moment asked caller request
    → ComesTo s new moment asked caller request p → IsPrepared s new moment asked p
prepared_in s old new moment asked caller request p same timely h comes =
    comes_prepared s new moment asked caller request p (subst (λ (w : ServiceWorld). IsTimely w.rows moment) (sym same) timely)
    (subst (λ (w : ServiceWorld). IsCleared s w moment asked caller request) (sym same) h) comes

-- a core with another room has the same world
pub same_world : (old new : CoreState) → IsRoomier old new → world_in new ≡ world_in old
same_world old new roomier =
    same_parts (world_in new) (world_in old) roomier.held.world.world roomier.held.results roomier.held.exonerations roomier.held.artifacts roomier.kept
    roomier.stored

-- a plan that was carried out is told as it was planned
pub told_of : (s : Settings) (old mid : CoreState) (moment : ℤ) (asked : Asked) (p : Prepared) (plan : PlanState) (result : Option Answer)
    (answer : Answer) (after : ServiceWorld) → world_in mid ≡ world_in old → p ≡ prepared.Change plan → IsPrepared s mid moment asked p
    → Carries (world_in mid) plan after → result ≡ plan.answer → result ≡ Some answer
    → IsTold s (world_in old) moment asked after answer
told_of s old mid moment asked p plan result answer after same p_is prepared carries result_is some =
    let is = (subst (IsPrepared s mid moment asked) p_is prepared).0 in
    let both = is.acts after carries in
    let here : Performs s (world_in mid) moment asked after answer = record {
      caller = is.caller;
      request = is.request;
      accepted = is.accepted;
      acts = both.0;
      answers = subst (λ (a : Answer). Answers (scene_of s after) is.caller (shows_of (recorded (world_in mid)) is.request) a)
          (sym (same_Some answer is.answer (sym some ∙ (result_is ∙ is.answer_is)))) both.1;
    } in
    subst (λ (w : ServiceWorld). IsTold s w moment asked after answer) same (performed here)

-- what was prepared without a change is told as it was prepared
pub told_at_once : (s : Settings) (old mid : CoreState) (moment : ℤ) (asked : Asked) (answer : Answer) → world_in mid ≡ world_in old
    → IsTold s (world_in mid) moment asked (world_in mid) answer → IsTold s (world_in old) moment asked (world_in mid) answer
told_at_once s old mid moment asked answer same told = subst (λ (w : ServiceWorld). IsTold s w moment asked (world_in mid) answer) same told

pub fits_as : (s : Settings) (core : CoreState) (moment : ℤ) (asked : Asked) (p : Prepared) (plan : PlanState) → p ≡ prepared.Change plan
    → IsPrepared s core moment asked p → Fits core plan
fits_as s core moment asked p plan p_is prepared = (subst (IsPrepared s core moment asked) p_is prepared).1

pub answers_as : (s : Settings) (core : CoreState) (moment : ℤ) (asked : Asked) (p : Prepared) (plan : PlanState) → p ≡ prepared.Change plan
    → IsPrepared s core moment asked p → plan.answer ≡ None → ⊥
answers_as s core moment asked p plan p_is prepared none =
    let is = (subst (IsPrepared s core moment asked) p_is prepared).0 in
    let no : Some is.answer ≡ None = sym is.answer_is ∙ none in cc

-- what has no place isn't storable
pub never_placed : (inside core : CoreState) (length : ℕ) (r : Refusal) → inside ≡ core → StoreRefused inside.stored length r
    → IsStorable core.stored length → ⊥
never_placed inside core length r view refused storable =
    storable r (subst (λ (k : CoreState). StoreRefused k.stored length r) view refused)

-- and what has is, in a core with more room
pub placed_in : (inside old core : CoreState) (length : ℕ) → inside ≡ old → IsRoomier old core → IsStorable inside.stored length
    → IsStorable core.stored length
placed_in inside old core length view roomier storable =
    subst (λ (n : ℕ). IsStorable n length) (sym roomier.stored) (subst (λ (k : CoreState). IsStorable k.stored length) view storable)

pub place_counted : (stored length : ℕ) → 0 < length → IsStorable stored length → stored + length < 2 ^ 64
place_counted stored length some storable = let fits = storable_fits stored length storable some in omega (arith, fits)

-- what is planned to be done again is prepared
pub prepared_so : (mid new : CoreState) (a : Again) (effect : Effect) (p : Option PlanState) → IsRoomier mid new → effect ≡ a.effect
    → effects.Fits mid.held a.moment effect → IsDoneBy new (record a { effect = effect }) p → IsPreparedAgain new a p
prepared_so mid new a effect None roomier is fits done = λ free place. sym is ∙ done place
prepared_so mid new a effect (Some plan) roomier is fits done =
    let room : IsUnrefused (recorded_in mid.held) effect = unrefused mid.held a.moment effect fits.suits fits.room in (
      subst (IsUnrefused (recorded_in new.held)) is
          (subst (λ (w : Recorded). IsUnrefused w effect) (sym (same_recorded mid.held new.held roomier.held)) room),
      subst (λ (e : Effect). IsDoneBy new (record a { effect = e }) (Some plan)) is done,
    )

-- and what is refused isn't
pub never_unrefused : (self inside core : CoreState) (held : Tables) (moment : ℤ) (name : List ℕ) (request : Request) (fault : EffectFault)
    → self.held ≡ held → inside ≡ core
    → EffectRefused (recorded_in held) (effect_of (recorded_in inside.held) moment name request) (refusal_of fault)
    → IsUnrefused (recorded_in self.held) (effect_of (recorded_in core.held) moment name request) → ⊥
never_unrefused self inside core held moment name request fault is same refused free =
    free (refusal_of fault)
    (subst (λ (k : CoreState). EffectRefused (recorded_in self.held) (effect_of (recorded_in k.held) moment name request) (refusal_of fault)) same
    (subst (λ (t : Tables). EffectRefused (recorded_in t) (effect_of (recorded_in inside.held) moment name request) (refusal_of fault)) (sym is)
    refused))
