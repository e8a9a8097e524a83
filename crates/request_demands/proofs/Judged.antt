-- One refusal is told of the rules, and which can be decided where each rule can.
use Rattle.std.proofs.Common.{◌≡◌, List, [], ◌∷◌, Option, Some, None, refl, sym, ap, ◌∙◌, subst, inl, inr}
use Rattle.std.specs.Prelude.{◌⊎◌}
use Rattle.call_forms.specs.declared.forms.Refusal.{Refusal}
use Rattle.request_demands.specs.Order.{IsUnbroken, Judges}

-- a rule is broken in one way
abbrev pub IsOne : (Refusal → Type 0) → Type 0
IsOne Breaks = (r p : Refusal) → Breaks r → Breaks p → r ≡ p

-- a rule is broken, and this is its refusal, or it isn't
abbrev pub Told : (Refusal → Type 0) → Type 0
Told Breaks = ((r : Refusal) × Breaks r) ⊎ IsUnbroken Breaks

pub one_judged : {K : Type 0} → (Breaks : K → Refusal → Type 0) → ((k : K) → IsOne (Breaks k)) → (rules : List K)
    (t u : Option Refusal) → Judges Breaks rules t → Judges Breaks rules u → t ≡ u
one_judged Breaks one [] t u this that = this ∙ sym that
one_judged Breaks one (k ∷ ks) t u (inl this) (inl that) =
    this.2 ∙ (ap (λ (r : Refusal). Some r) (one k this.0 that.0 this.1 that.1) ∙ sym that.2)
one_judged Breaks one (k ∷ ks) t u (inl this) (inr that) = absurd (that.0 this.0 this.1)
one_judged Breaks one (k ∷ ks) t u (inr this) (inl that) = absurd (this.0 that.0 that.1)
one_judged Breaks one (k ∷ ks) t u (inr this) (inr that) = one_judged Breaks one ks t u this.1 that.1

pub judged_there : {K : Type 0} → (Breaks : K → Refusal → Type 0) → ((k : K) → Told (Breaks k)) → (rules : List K)
    → (found : Option Refusal) × Judges Breaks rules found
judged_there Breaks told [] = (None, refl)
judged_there Breaks told (k ∷ ks) =
    elim (told k) [
      | inl is ↦ (Some is.0, inl (is.0, is.1, refl))
      | inr none ↦ let rest = judged_there Breaks told ks in (rest.0, inr (none, rest.1))
    ]

-- a rule is one of some
abbrev pub IsAmong : {K : Type 0} → K → List K → Type 0
IsAmong k [] = ⊥
IsAmong k (other ∷ ks) = (k ≡ other) ⊎ IsAmong k ks

-- where none of some rules is broken, each is unbroken
pub unbroken_each : {K : Type 0} → (Breaks : K → Refusal → Type 0) (rules : List K) → Judges Breaks rules None → (k : K)
    → IsAmong k rules → IsUnbroken (Breaks k)
unbroken_each Breaks [] none k never = absurd never
unbroken_each Breaks (first ∷ ks) (inl is) k at = let e : None ≡ Some is.0 = is.2 in absurd cc
unbroken_each {K} Breaks (first ∷ ks) (inr none) k (inl same) = subst (λ (j : K). IsUnbroken (Breaks j)) (sym same) none.0
unbroken_each Breaks (first ∷ ks) (inr none) k (inr at) = unbroken_each Breaks ks none.1 k at
