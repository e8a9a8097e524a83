-- A step answers alike over worlds that look alike.
use Rattle.std.proofs.Common.{◌≡◌, ℕ, ℤ, List, Option, Some, None, inl, inr, refl, sym, ap, ◌∙◌, subst}
use Rattle.std.proofs.lemmas.Option.{none-some}
use Rattle.kept_replies.specs.declared.reply.KeptReply.{KeptReply}
use Rattle.call_forms.specs.declared.asked.Asked.{Asked}
use Rattle.call_forms.specs.declared.forms.Answer.{Answer}
use Rattle.call_forms.specs.declared.forms.Refusal.{Refusal}
use Rattle.request_demands.specs.MessageForms.declared.requests.Request.{Request}
use Rattle.invocation_world.specs.World.{World}
use Rattle.invocation_world.specs.Advancing.{Advances, CarriesOut, after_deadlines}
use Rattle.policy_tables.specs.declared.tables.PolicyTables.{PolicyTables}
use Rattle.request_demands.specs.Settings.{Settings, caller_name}
use Rattle.request_demands.specs.Demands.{demand_of}
use Rattle.request_demands.specs.Numbered.{kept_at, place_kept}
use Rattle.request_demands.specs.Alone.{Wants}
use Rattle.request_demands.specs.Understood.{length_for}
use Rattle.service_effects.specs.declared.effect.Effect.{Effect}
use Rattle.service_effects.specs.declared.effect.Effect.TheVariants as does
use Rattle.service_effects.specs.Effects.{Makes}
use Rattle.service_effects.specs.Refused.{EffectRefused}
use Rattle.service_effects.specs.Service.{ServiceWorld, recorded}
use Rattle.service_effects.specs.Storing.{DoingRefused, IsStorable, bytes_of, stored_due}
use Rattle.service_effects.proofs.StoringLaws.{nothing_storable}
use Rattle.service_laws.specs.RequestEffects.declared.keeping.Numbered.{Numbered}
use Rattle.service_laws.specs.RequestEffects.Answers.{Answers}
use Rattle.service_laws.specs.RequestEffects.Keeps.{kept_of, with_kept}
use Rattle.service_laws.specs.RequestEffects.Shows.{shows_of}
use Rattle.service_laws.specs.ServiceCore.Service.{CatchesUp}
use Rattle.service_laws.specs.ServiceCore.Step.{Acts, IsAccepted, IsJudgedAs, IsNew, IsRefusal, IsRefusedOf, IsRepeated, IsTold, Performs, Refuses, Step, bytes_for, effect_for, keep_for, performed, refused, repeated, scene_of}
use Rattle.service_laws.proofs.ServiceCore.ClearedLaws.{accepted_granted}
use Rattle.service_laws.proofs.ServiceCore.PlanLaws.{stored_same}
use Rattle.service_effects.proofs.RoomLaws.{same_parts}
use Rattle.service_laws.proofs.StepLaws.{one_step}
use Rattle.restricted_fields.specs.Alike.{LookAlike}
use Rattle.restricted_fields.specs.Laws.{AsksReader, UnseenChangesNoAnswer}
use Rattle.restricted_fields.proofs.BesideFacts.{AlikeOver, alike_over, alike_still, with_rows, with_stored}
use Rattle.restricted_fields.proofs.FoundFacts.{FindAlike, found_alike, judged_alike}
use Rattle.restricted_fields.proofs.ReaderFacts.{Reads, asked_reads, reads_no_number, reads_nothing, reads_unnumbered}
use Rattle.restricted_fields.proofs.RealmFacts.{AllStood, advanced_stood, all_stood, settled_stood}
use Rattle.restricted_fields.proofs.ShownFacts.{answers_alike}

-- ---- what is asked

reads_of : (s : Settings) (caller c : ℕ) (asked : Asked) (request : Request) → AsksReader s caller asked → Wants s asked c request
    → Reads request
reads_of s caller c asked request reader wants = asked_reads asked.service asked.method asked.body request reader.service_is wants.asks

no_repeat : (s : Settings) (w : ServiceWorld) (moment : ℤ) (asked : Asked) (c : ℕ) (request : Request) (reply : KeptReply) → Reads request
    → IsRepeated s w moment asked c request reply → ⊥
no_repeat s w moment asked c request reply reads again =
    let none : kept_at w.kept (place_kept w.kept (caller_name s c) (demand_of request).number) ≡ None =
    ap (λ (n : Option (List ℕ)). kept_at w.kept (place_kept w.kept (caller_name s c) n)) (reads_no_number request reads) in
    none-some reply (sym none ∙ again.found)

not_refused : (s : Settings) (w : ServiceWorld) (moment : ℤ) (c : ℕ) (request : Request) (r : Refusal) → Reads request
    → EffectRefused (recorded w) (effect_for s w moment c request) r → ⊥
not_refused s w moment c request r reads h =
    subst (λ (e : Effect). EffectRefused (recorded w) e r) (reads_nothing (recorded w) moment (caller_name s c) request reads) h

-- and nothing of it is recorded
storable : (s : Settings) (w : ServiceWorld) (moment : ℤ) (asked : Asked) (c : ℕ) (request : Request) → Reads request
    → IsStorable w.stored (bytes_for s w moment asked c request)
storable s w moment asked c request reads =
    subst (λ (e : Effect). IsStorable w.stored (bytes_of e (length_for s asked c)))
    (sym (reads_nothing (recorded w) moment (caller_name s c) request reads)) (nothing_storable w.stored)

not_doing : (s : Settings) (w : ServiceWorld) (moment : ℤ) (asked : Asked) (c : ℕ) (request : Request) (r : Refusal) → Reads request
    → DoingRefused (recorded w) w.stored (effect_for s w moment c request) (bytes_for s w moment asked c request) r → ⊥
not_doing s w moment asked c request r reads (inl full) = not_refused s w moment c request r reads full
not_doing s w moment asked c request r reads (inr over) = storable s w moment asked c request reads r over.1

-- ---- refusals

judged_beside : (s : Settings) (rows : World) (w v : ServiceWorld) (moment : ℤ) (asked : Asked) (c : ℕ) (request : Request)
    (found : Option Refusal) → FindAlike rows.invocations w v → Reads request → IsJudgedAs s (with_rows rows w) moment asked c request found
    → IsJudgedAs s (with_rows rows v) moment asked c request found
judged_beside s rows w v moment asked c request found same reads =
    judged_alike s rows w v moment asked c (demand_of request) found (reads_no_number request reads) same

new_beside : (s : Settings) (rows : World) (w v : ServiceWorld) (moment : ℤ) (asked : Asked) (c : ℕ) (request : Request) → Reads request
    → IsNew s (with_rows rows w) moment asked c request → IsNew s (with_rows rows v) moment asked c request
new_beside s rows w v moment asked c request reads new = record {
  wants = new.wants;
  fresh = λ reply again. no_repeat s (with_rows rows v) moment asked c request reply reads again;
}

refused_of_beside : (s : Settings) (rows : World) (w v : ServiceWorld) (moment : ℤ) (asked : Asked) (c : ℕ) (request : Request) (r : Refusal)
    → FindAlike rows.invocations w v → Reads request → IsRefusedOf s (with_rows rows w) moment asked c request r
    → IsRefusedOf s (with_rows rows v) moment asked c request r
refused_of_beside s rows w v moment asked c request r same reads (inl judged) =
    inl (judged_beside s rows w v moment asked c request (Some r) same reads judged)
refused_of_beside s rows w v moment asked c request r same reads (inr full) =
    absurd (not_doing s (with_rows rows w) moment asked c request r reads full.1)

refusal_beside : (s : Settings) (rows : World) (w v : ServiceWorld) (moment : ℤ) (asked : Asked) (caller : ℕ) (r : Refusal)
    → FindAlike rows.invocations w v → AsksReader s caller asked → IsRefusal s (with_rows rows w) moment asked r
    → IsRefusal s (with_rows rows v) moment asked r
refusal_beside s rows w v moment asked caller r same reader (inl alone) = inl alone
refusal_beside s rows w v moment asked caller r same reader (inr h) =
    let reads = reads_of s caller h.0 asked h.1 reader h.2.wants in
    inr (h.0, h.1, new_beside s rows w v moment asked h.0 h.1 reads h.2, refused_of_beside s rows w v moment asked h.0 h.1 r same reads h.3)

-- ---- what is performed

accepted_beside : (s : Settings) (rows : World) (w v : ServiceWorld) (moment : ℤ) (asked : Asked) (c : ℕ) (request : Request)
    → FindAlike rows.invocations w v → Reads request → IsAccepted s (with_rows rows w) moment asked c request
    → IsAccepted s (with_rows rows v) moment asked c request
accepted_beside s rows w v moment asked c request same reads h = record {
  new = new_beside s rows w v moment asked c request reads h.new;
  judged = judged_beside s rows w v moment asked c request None same reads h.judged;
  room = λ r e. not_refused s (with_rows rows v) moment c request r reads e;
  store = storable s (with_rows rows v) moment asked c request reads;
}

-- a request of the service that reads does nothing, and of it nothing is kept
nothing_made : (s : Settings) (w : ServiceWorld) (moment : ℤ) (c : ℕ) (request : Request) (after : ServiceWorld) → Reads request
    → Makes moment (effect_for s w moment c request) (recorded w) (recorded after) → Makes moment does.Nothing (recorded w) (recorded after)
nothing_made s w moment c request after reads made =
    subst (λ (e : Effect). Makes moment e (recorded w) (recorded after))
    (reads_nothing (recorded w) moment (caller_name s c) request reads) made

nothing_kept : (s : Settings) (w : ServiceWorld) (moment : ℤ) (asked : Asked) (c : ℕ) (request : Request) → Reads request
    → with_kept w.kept (keep_for s w moment asked c request) ≡ w.kept
nothing_kept s w moment asked c request reads =
    ap (λ (n : Option Numbered). with_kept w.kept (kept_of (recorded w) (caller_name s c) n (effect_for s w moment c request)))
    (reads_unnumbered asked request reads)

acts_beside : (s : Settings) (rows later : World) (w v : ServiceWorld) (moment : ℤ) (asked : Asked) (c : ℕ) (request : Request) → Reads request
    → Makes moment does.Nothing (recorded (with_rows rows w)) (recorded (with_rows later w))
    → Acts s (with_rows rows v) moment asked c request (with_rows later v)
acts_beside s rows later w v moment asked c request reads made =
    let before = with_rows rows v in
    let own : Makes moment does.Nothing (recorded before) (recorded (with_rows later v)) =
    record { rows = made.rows; results = refl; exonerations = refl; artifacts = refl } in
    record {
      made = subst (λ (e : Effect). Makes moment e (recorded before) (recorded (with_rows later v)))
          (sym (reads_nothing (recorded before) moment (caller_name s c) request reads)) own;
      kept = sym (nothing_kept s before moment asked c request reads);
      stored = stored_same s before moment asked c request (reads_nothing (recorded before) moment (caller_name s c) request reads);
    }

-- so it leaves all but the invocations as it is
left_same : (s : Settings) (w : ServiceWorld) (moment : ℤ) (asked : Asked) (c : ℕ) (request : Request) (after : ServiceWorld) → Reads request
    → Acts s w moment asked c request after → after ≡ with_rows after.rows w
left_same s w moment asked c request after reads acts =
    let made = nothing_made s w moment c request after reads acts.made in
    same_parts after (with_rows after.rows w) refl made.results made.exonerations made.artifacts
    (acts.kept ∙ nothing_kept s w moment asked c request reads)
    (acts.stored ∙ sym (stored_same s w moment asked c request (reads_nothing (recorded w) moment (caller_name s c) request reads)))

-- ---- one step

-- All but the invocations stays as it is, and the same is told in the other world, where it does, too.
record ToldBeside (s : Settings) (rows : World) (w v : ServiceWorld) (moment : ℤ) (asked : Asked) (after : ServiceWorld) (answer : Answer)
    : Type 0 where
  pub later : World
  pub left : after ≡ with_rows later w
  pub stood : AllStood rows.invocations later.invocations
  pub told : IsTold s (with_rows rows v) moment asked (with_rows later v) answer

performs_beside : (s : Settings) (rows : World) (w v : ServiceWorld) (moment : ℤ) (asked : Asked) (caller : ℕ) (after : ServiceWorld)
    (answer : Answer) → AlikeOver s.policy caller rows w v → AsksReader s caller asked
    → Performs s (with_rows rows w) moment asked after answer → ToldBeside s rows w v moment asked after answer
performs_beside s rows w v moment asked caller after answer like reader h =
    let c = h.caller in
    let request = h.request in
    let wants = h.accepted.new.wants in
    let reads = reads_of s caller c asked request reader wants in
    let later = after.rows in
    let left : after ≡ with_rows later w = left_same s (with_rows rows w) moment asked c request after reads h.acts in
    let acts : Acts s (with_rows rows w) moment asked c request (with_rows later w) =
    subst (λ (u : ServiceWorld). Acts s (with_rows rows w) moment asked c request u) left h.acts in
    let made = nothing_made s (with_rows rows w) moment c request (with_rows later w) reads acts.made in
    let stood : AllStood rows.invocations later.invocations =
    settled_stood moment rows.inclusions rows.invocations later.invocations made.rows.rows in
    let both : Some caller ≡ Some c = sym reader.caller_is ∙ wants.caller_is in
    let own : caller ≡ c = cc in
    let same = found_alike s.policy caller rows w v like in
    let seen : AlikeOver s.policy c later w v =
    subst (λ (k : ℕ). AlikeOver s.policy k later w v) own (alike_still s.policy caller rows later w v stood like) in
    record {
      later = later;
      left = left;
      stood = stood;
      told = performed (record {
        caller = c;
        request = request;
        accepted = accepted_beside s rows w v moment asked c request same reads h.accepted;
        acts = acts_beside s rows later w v moment asked c request reads made;
        answers = answers_alike s rows later w v c answer same (subst (λ (k : ℕ). AlikeOver s.policy k rows w v) own like) seen request reads
            (accepted_granted s (with_rows rows w) moment asked c request h.accepted)
            (subst (λ (u : ServiceWorld). Answers (scene_of s u) c (shows_of (recorded (with_rows rows w)) request) answer) left h.answers);
      });
    }

refuses_beside : (s : Settings) (rows : World) (w v : ServiceWorld) (moment : ℤ) (asked : Asked) (caller : ℕ) (after : ServiceWorld)
    (answer : Answer) → AlikeOver s.policy caller rows w v → AsksReader s caller asked
    → Refuses s (with_rows rows w) moment asked after answer → ToldBeside s rows w v moment asked after answer
refuses_beside s rows w v moment asked caller after answer like reader h =
    let same = found_alike s.policy caller rows w v like in
    record {
      later = rows;
      left = h.same;
      stood = all_stood rows.invocations;
      told = refused (record {
        refusal = h.refusal;
        is_refusal = refusal_beside s rows w v moment asked caller h.refusal same reader h.is_refusal;
        same = refl;
        answer_is = h.answer_is;
      });
    }

told_beside : (s : Settings) (rows : World) (w v : ServiceWorld) (moment : ℤ) (asked : Asked) (caller : ℕ) (after : ServiceWorld)
    (answer : Answer) → AlikeOver s.policy caller rows w v → AsksReader s caller asked
    → IsTold s (with_rows rows w) moment asked after answer → ToldBeside s rows w v moment asked after answer
told_beside s rows w v moment asked caller after answer like reader (refused h) =
    refuses_beside s rows w v moment asked caller after answer like reader h
told_beside s rows w v moment asked caller after answer like reader (repeated h) =
    absurd (no_repeat s (with_rows rows w) moment asked h.caller h.request h.reply
    (reads_of s caller h.caller asked h.request reader h.wants) h.repeated)
told_beside s rows w v moment asked caller after answer like reader (performed h) =
    performs_beside s rows w v moment asked caller after answer like reader h

-- due deadlines leave all but the invocations and what is stored as it is
caught_up_same : (w : ServiceWorld) (moment : ℤ) (between : ServiceWorld) → CatchesUp w moment between
    → between ≡ with_rows between.rows (with_stored between.stored w)
caught_up_same w moment between up =
    same_parts between (with_rows between.rows (with_stored between.stored w)) refl up.due.results up.due.exonerations up.due.artifacts up.kept refl

-- worlds look alike whatever is stored
alike_stored : (policy : PolicyTables) (caller : ℕ) (rows : World) (w v : ServiceWorld) (n m : ℕ) → AlikeOver policy caller rows w v
    → AlikeOver policy caller rows (with_stored n w) (with_stored m v)
alike_stored policy caller rows w v n m like =
    record { rows = refl; results = like.results; exonerations = like.exonerations; artifacts = like.artifacts }

-- what is due in one world is due in the other, too
catches_too : (moment : ℤ) (before : World) (other : ServiceWorld) (rows : World) → before ≡ other.rows → (up : Advances before moment rows)
    → CatchesUp other moment (with_rows rows (with_stored (stored_due up.deadlines other.stored) other))
catches_too moment before other rows same up = record {
  due = record {
    rows = record {
      deadlines = up.deadlines;
      rows = up.rows;
      carried = subst (λ (old : World). CarriesOut old.inclusions moment old.invocations up.deadlines up.rows) same up.carried;
      after_is = subst (λ (old : World). rows ≡ after_deadlines moment up.deadlines up.rows old) same up.after_is;
    };
    results = refl;
    exonerations = refl;
    artifacts = refl;
  };
  kept = refl;
  stored = refl;
}

pub unseen_changes_no_answer : UnseenChangesNoAnswer
unseen_changes_no_answer s caller one other moment asked after also answer told like reader step mirror =
    let rows = step.between.rows in
    let up = step.advances in
    let this = with_stored step.between.stored one in
    let that = with_stored (stored_due up.due.rows.deadlines other.stored) other in
    let near : AlikeOver s.policy caller rows this that =
    alike_stored s.policy caller rows one other this.stored that.stored
    (alike_still s.policy caller one.rows rows one other (advanced_stood moment one.rows rows up.due.rows) (alike_over s.policy caller one other like)) in
    let judged : IsTold s (with_rows rows this) moment asked after answer =
    subst (λ (u : ServiceWorld). IsTold s u moment asked after answer) (caught_up_same one moment step.between up) step.judged in
    let beside = told_beside s rows this that moment asked caller after answer near reader judged in
    let catches : CatchesUp other moment (with_rows rows that) = catches_too moment one.rows other rows like.rows up.due.rows in
    let twin : Step s other moment asked (with_rows beside.later that) answer =
    record { between = with_rows rows that; advances = catches; judged = beside.told } in
    let same = one_step s other moment asked (with_rows beside.later that) answer also told twin mirror in
    let alike : AlikeOver s.policy caller beside.later this that = alike_still s.policy caller rows beside.later this that beside.stood near in
    let left : LookAlike s.policy caller after (with_rows beside.later that) =
    subst (λ (u : ServiceWorld). LookAlike s.policy caller u (with_rows beside.later that)) (sym beside.left) alike in
    (same.1, subst (λ (u : ServiceWorld). LookAlike s.policy caller after u) same.0 left)
