-- A request has one step.
use Rattle.std.proofs.Common.{◌≡◌, ℕ, ℤ, Option, Some, None, inl, inr, sym, ap, ◌∙◌, subst}
use Rattle.call_forms.specs.declared.asked.Asked.{Asked}
use Rattle.call_forms.specs.declared.forms.Answer.{Answer}
use Rattle.call_forms.specs.Rules.{refusal_answer}
use Rattle.service_core.specs.MessageForms.declared.requests.Request.{Request}
use Rattle.service_core.specs.RequestDemands.Settings.{Settings}
use Rattle.call_forms.specs.declared.forms.Refusal.{Refusal}
use Rattle.service_core.specs.RequestDemands.Demands.{demand_of}
use Rattle.kept_replies.specs.declared.reply.KeptReply.{KeptReply}
use Rattle.service_core.specs.RequestRules.Broken.{IsBroken, order}
use Rattle.service_core.specs.RequestDemands.Alone.{Wants}
use Rattle.service_core.proofs.RequestDemands.Judged.{one_judged as one_told}
use Rattle.service_core.proofs.RequestDemands.ReadLaws.{wanted_alone}
use Rattle.service_core.proofs.RequestDemands.AloneFacts.{one_caller, one_refused_alone, one_request}
use Rattle.service_core.proofs.RequestRules.RuleFacts.{one_broken}
use Rattle.service_effects.specs.Effects.{with_effect}
use Rattle.service_core.specs.RequestEffects.Keeps.{kept_answer}
use Rattle.service_core.specs.RequestEffects.Answers.{Answers}
use Rattle.service_core.specs.RequestEffects.Shows.{shows_of}
use Rattle.service_core.proofs.RequestEffects.AnswerLaws.{one_answer}
use Rattle.service_effects.proofs.EffectLaws.{one_settling}
use Rattle.service_effects.proofs.StoringLaws.{one_doing}
use Rattle.service_effects.specs.Service.{ServiceWorld, recorded}
use Rattle.service_core.specs.Step.{Acts, IsAccepted, IsJudgedAs, IsNew, IsRefusal, IsRefusedOf, IsRepeated, IsTold, Performs, Refuses, Repeats, bytes_for, case_in, effect_for, performed, refused, repeated, scene_of}
use Rattle.service_effects.proofs.RoomLaws.{same_parts}
use Rattle.service_core.proofs.UniqueLaws.{one_between}
use Rattle.service_laws.specs.Laws.{StepsAreUnique}

-- of what a caller wants one thing is told
one_judged_as : (s : Settings) (w : ServiceWorld) (moment : ℤ) (asked : Asked) (caller : ℕ) (request : Request) (t u : Option Refusal)
    → IsJudgedAs s w moment asked caller request t → IsJudgedAs s w moment asked caller request u → t ≡ u
one_judged_as s w moment asked caller request t u =
    one_told (IsBroken (case_in s w moment asked caller) (demand_of request)) (one_broken (case_in s w moment asked caller) (demand_of request)) order t u

one_of_wanted : (s : Settings) (w : ServiceWorld) (moment : ℤ) (asked : Asked) (caller : ℕ) (request : Request) (r p : Refusal)
    → IsRefusedOf s w moment asked caller request r → IsRefusedOf s w moment asked caller request p → r ≡ p
one_of_wanted s w moment asked caller request r p (inl this) (inl that) =
    let both : Some r ≡ Some p = one_judged_as s w moment asked caller request (Some r) (Some p) this that in cc
one_of_wanted s w moment asked caller request r p (inl this) (inr that) =
    let no : Some r ≡ None = one_judged_as s w moment asked caller request (Some r) None this that.0 in absurd cc
one_of_wanted s w moment asked caller request r p (inr this) (inl that) =
    let no : Some p ≡ None = one_judged_as s w moment asked caller request (Some p) None that this.0 in absurd cc
one_of_wanted s w moment asked caller request r p (inr this) (inr that) =
    one_doing (recorded w) w.stored (effect_for s w moment caller request) (bytes_for s w moment asked caller request) r p this.1 that.1

one_refusal : (s : Settings) (w : ServiceWorld) (moment : ℤ) (asked : Asked) (r p : Refusal) → IsRefusal s w moment asked r
    → IsRefusal s w moment asked p → r ≡ p
one_refusal s w moment asked r p (inl this) (inl that) = one_refused_alone s asked r p this that
one_refusal s w moment asked r p (inl this) (inr that) = absurd (wanted_alone s asked that.0 that.1 r that.2.wants this)
one_refusal s w moment asked r p (inr this) (inl that) = absurd (wanted_alone s asked this.0 this.1 p this.2.wants that)
one_refusal s w moment asked r p (inr this) (inr that) =
    let caller = one_caller s asked this.0 that.0 this.1 that.1 this.2.wants that.2.wants in
    let request = one_request s asked this.0 that.0 this.1 that.1 this.2.wants that.2.wants in
    one_of_wanted s w moment asked that.0 that.1 r p
    (subst (λ (c : ℕ). IsRefusedOf s w moment asked c that.1 r) caller
    (subst (λ (q : Request). IsRefusedOf s w moment asked this.0 q r) request this.3)) that.3

-- what is accepted isn't refused
never_refused_of : (s : Settings) (w : ServiceWorld) (moment : ℤ) (asked : Asked) (caller : ℕ) (request : Request) (r : Refusal)
    → IsAccepted s w moment asked caller request → IsRefusedOf s w moment asked caller request r → ⊥
never_refused_of s w moment asked caller request r accepted (inl is) =
    let no : Some r ≡ None = one_judged_as s w moment asked caller request (Some r) None is accepted.judged in cc
never_refused_of s w moment asked caller request r accepted (inr is) =
    elim is.1 [ inl full ↦ accepted.room r full | inr over ↦ accepted.store r over.1 ]

never_refused : (s : Settings) (w : ServiceWorld) (moment : ℤ) (asked : Asked) (caller : ℕ) (request : Request) (r : Refusal)
    → IsAccepted s w moment asked caller request → IsRefusal s w moment asked r → ⊥
never_refused s w moment asked caller request r accepted (inl is) = wanted_alone s asked caller request r accepted.new.wants is
never_refused s w moment asked caller request r accepted (inr is) =
    let same_caller = one_caller s asked is.0 caller is.1 request is.2.wants accepted.new.wants in
    let same_request = one_request s asked is.0 caller is.1 request is.2.wants accepted.new.wants in
    never_refused_of s w moment asked caller request r accepted
    (subst (λ (c : ℕ). IsRefusedOf s w moment asked c request r) same_caller
    (subst (λ (q : Request). IsRefusedOf s w moment asked is.0 q r) same_request is.3))

-- what is new is no repeat, whoever is said to want what
pub never_repeated : (s : Settings) (w : ServiceWorld) (moment : ℤ) (asked : Asked) (c d : ℕ) (p q : Request) (reply : KeptReply)
    → IsNew s w moment asked c p → Wants s asked d q → IsRepeated s w moment asked d q reply → ⊥
never_repeated s w moment asked c d p q reply new wants again =
    let caller = one_caller s asked d c q p wants new.wants in
    let request = one_request s asked d c q p wants new.wants in
    new.fresh reply
    (subst (λ (k : ℕ). IsRepeated s w moment asked k p reply) caller
    (subst (λ (x : Request). IsRepeated s w moment asked d x reply) request again))

never_repeated_refused : (s : Settings) (w : ServiceWorld) (moment : ℤ) (asked : Asked) (v : ServiceWorld) (answer : Answer) (r : Refusal)
    → Repeats s w moment asked v answer → IsRefusal s w moment asked r → ⊥
never_repeated_refused s w moment asked v answer r this (inl is) = wanted_alone s asked this.caller this.request r this.wants is
never_repeated_refused s w moment asked v answer r this (inr is) =
    never_repeated s w moment asked is.0 this.caller is.1 this.request this.reply is.2 this.wants this.repeated

one_refused : (s : Settings) (w : ServiceWorld) (moment : ℤ) (asked : Asked) (v : ServiceWorld) (r : Answer) (x : ServiceWorld) (q : Answer)
    → Refuses s w moment asked v r → Refuses s w moment asked x q → (v ≡ x) × (r ≡ q)
one_refused s w moment asked v r x q this that =
    let same = one_refusal s w moment asked this.refusal that.refusal this.is_refusal that.is_refusal in
    (this.same ∙ sym that.same, this.answer_is ∙ ap refusal_answer same ∙ sym that.answer_is)

one_repeat : (s : Settings) (w : ServiceWorld) (moment : ℤ) (asked : Asked) (v : ServiceWorld) (r : Answer) (x : ServiceWorld) (q : Answer)
    → Repeats s w moment asked v r → Repeats s w moment asked x q → (v ≡ x) × (r ≡ q)
one_repeat s w moment asked v r x q this that =
    let caller = one_caller s asked this.caller that.caller this.request that.request this.wants that.wants in
    let request = one_request s asked this.caller that.caller this.request that.request this.wants that.wants in
    let again : IsRepeated s w moment asked that.caller that.request this.reply =
    subst (λ (c : ℕ). IsRepeated s w moment asked c that.request this.reply) caller
    (subst (λ (p : Request). IsRepeated s w moment asked this.caller p this.reply) request this.repeated) in
    let both : Some this.reply ≡ Some that.reply = sym again.found ∙ that.repeated.found in
    let same : this.reply ≡ that.reply = cc in (
      this.same ∙ sym that.same,
      this.answer_is ∙ (ap (λ (k : KeptReply). kept_answer (scene_of s w) k.answer) same ∙ sym that.answer_is),
    )

one_performed : (s : Settings) (w : ServiceWorld) (moment : ℤ) (asked : Asked) (v : ServiceWorld) (r : Answer) (x : ServiceWorld) (q : Answer)
    → Performs s w moment asked v r → Performs s w moment asked x q → (v ≡ x) × (r ≡ q)
one_performed s w moment asked v r x q this that =
    let caller = one_caller s asked this.caller that.caller this.request that.request this.accepted.new.wants that.accepted.new.wants in
    let request = one_request s asked this.caller that.caller this.request that.request this.accepted.new.wants that.accepted.new.wants in
    let acts : Acts s w moment asked that.caller that.request v =
    subst (λ (c : ℕ). Acts s w moment asked c that.request v) caller
    (subst (λ (p : Request). Acts s w moment asked this.caller p v) request this.acts) in
    let rows : v.rows ≡ x.rows = one_settling moment (with_effect moment (effect_for s w moment that.caller that.request) w.rows) v.rows x.rows acts.made.rows that.acts.made.rows in
    let same : v ≡ x = same_parts v x rows (acts.made.results ∙ sym that.acts.made.results)
    (acts.made.exonerations ∙ sym that.acts.made.exonerations) (acts.made.artifacts ∙ sym that.acts.made.artifacts) (acts.kept ∙ sym that.acts.kept)
    (acts.stored ∙ sym that.acts.stored) in (
      same,
      one_answer (scene_of s x) that.caller (shows_of (recorded w) that.request) r q
          (subst (λ (c : ℕ). Answers (scene_of s x) c (shows_of (recorded w) that.request) r) caller
          (subst (λ (p : Request). Answers (scene_of s x) this.caller (shows_of (recorded w) p) r) request
          (subst (λ (u : ServiceWorld). Answers (scene_of s u) this.caller (shows_of (recorded w) this.request) r) same this.answers)))
          that.answers,
    )

one_told_case : (s : Settings) (w : ServiceWorld) (moment : ℤ) (asked : Asked) (v : ServiceWorld) (r : Answer) (x : ServiceWorld) (q : Answer)
    → IsTold s w moment asked v r → IsTold s w moment asked x q → (v ≡ x) × (r ≡ q)
one_told_case s w moment asked v r x q (refused this) (refused that) = one_refused s w moment asked v r x q this that
one_told_case s w moment asked v r x q (refused this) (repeated that) =
    absurd (never_repeated_refused s w moment asked x q this.refusal that this.is_refusal)
one_told_case s w moment asked v r x q (refused this) (performed that) =
    absurd (never_refused s w moment asked that.caller that.request this.refusal that.accepted this.is_refusal)
one_told_case s w moment asked v r x q (repeated this) (refused that) =
    absurd (never_repeated_refused s w moment asked v r that.refusal this that.is_refusal)
one_told_case s w moment asked v r x q (repeated this) (repeated that) = one_repeat s w moment asked v r x q this that
one_told_case s w moment asked v r x q (repeated this) (performed that) =
    absurd (never_repeated s w moment asked that.caller this.caller that.request this.request this.reply that.accepted.new this.wants this.repeated)
one_told_case s w moment asked v r x q (performed this) (refused that) =
    absurd (never_refused s w moment asked this.caller this.request that.refusal this.accepted that.is_refusal)
one_told_case s w moment asked v r x q (performed this) (repeated that) =
    absurd (never_repeated s w moment asked this.caller that.caller this.request that.request that.reply this.accepted.new that.wants that.repeated)
one_told_case s w moment asked v r x q (performed this) (performed that) = one_performed s w moment asked v r x q this that

pub one_step : StepsAreUnique
one_step s w moment asked v r x q this that =
    let same : that.between ≡ this.between = one_between w moment that.between this.between that.advances this.advances in
    one_told_case s this.between moment asked v r x q this.judged
    (subst (λ (u : ServiceWorld). IsTold s u moment asked x q) same that.judged)
