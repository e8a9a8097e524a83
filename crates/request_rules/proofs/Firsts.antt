-- The first of a list, a step of a loop at a time.
use Rattle.std.proofs.Common.{◌≡◌, ◌<◌, ◌≤◌, ◌+◌, ℕ, zero, suc, List, [], ◌∷◌, ◌++◌, length, map, drop, get_or, Option, Some, None, option_map, refl, sym, ap, subst, inl, inr, arith, add-one}
use Rattle.std.proofs.Math.Seq.{drop-cons}
use Rattle.std.proofs.lemmas.List.{drop_all}
use Rattle.call_forms.specs.declared.forms.Refusal.{Refusal}
use Rattle.request_rules.specs.declared.breaches.Breach.{Breach}
use Rattle.request_rules.specs.declared.rules.Rule.{Rule}
use Rattle.request_rules.specs.Breaches.{Finds}
use Rattle.request_rules.specs.Broken.{Case, IsBroken}
use Rattle.request_demands.specs.Demands.{Demand}
use Rattle.request_demands.specs.Order.{FirstOf, IsUnbroken, Judges}

-- where it holds of none, it holds of no first one
pub no_first : {A : Type 0} → (Holds : A → Type 0) → (xs : List A) → FirstOf Holds xs None → (x : A) → ¬ FirstOf Holds xs (Some x)
no_first {A} Holds [] none x some = let e : Some x ≡ None = some in cc
no_first {A} Holds (y ∷ ys) (inl this) x some = let e : None ≡ Some y = this.1 in cc
no_first Holds (y ∷ ys) (inr this) x (inl that) = this.0 that.0
no_first Holds (y ∷ ys) (inr this) x (inr that) = no_first Holds ys this.1 x that.1

-- the first of some and more
pub first_in_front : {A : Type 0} → (Holds : A → Type 0) → (xs ys : List A) (x : A) → FirstOf Holds xs (Some x) → FirstOf Holds (xs ++ ys) (Some x)
first_in_front {A} Holds [] ys x never = let e : Some x ≡ None = never in cc
first_in_front Holds (z ∷ xs) ys x (inl this) = inl this
first_in_front Holds (z ∷ xs) ys x (inr this) = inr (this.0, first_in_front Holds xs ys x this.1)

pub first_in_more : {A : Type 0} → (Holds : A → Type 0) → (xs ys : List A) (found : Option A) → FirstOf Holds xs None → FirstOf Holds ys found
    → FirstOf Holds (xs ++ ys) found
first_in_more Holds [] ys found none first = first
first_in_more {A} Holds (z ∷ xs) ys found (inl this) first = let e : None ≡ Some z = this.1 in cc
first_in_more Holds (z ∷ xs) ys found (inr this) first = inr (this.0, first_in_more Holds xs ys found this.1 first)

-- the first of a list is the first of what the list is seen as
pub first_of_map : {A B : Type 0} → (f : A → B) (Holds : B → Type 0) (xs : List A) (found : Option A) → FirstOf (λ x. Holds (f x)) xs found
    → FirstOf Holds (map f xs) (option_map f found)
first_of_map {A} {B} f Holds [] found none = ap (option_map f) none
first_of_map {A} {B} f Holds (x ∷ xs) found (inl this) = inl (this.0, ap (option_map f) this.1)
first_of_map {A} {B} f Holds (x ∷ xs) found (inr this) = inr (this.0, first_of_map f Holds xs found this.1)

pub first_of_same : {A : Type 0} → (Holds : A → Type 0) → (xs ys : List A) (found : Option A) → xs ≡ ys → FirstOf Holds xs found
    → FirstOf Holds ys found
first_of_same {A} Holds xs ys found same first = subst (λ (l : List A). FirstOf Holds l found) same first

-- one stands first
pub one_first : {A : Type 0} → (Holds : A → Type 0) → (xs : List A) (x y : A) → FirstOf Holds xs (Some x) → FirstOf Holds xs (Some y)
    → x ≡ y
one_first {A} Holds [] x y never also = let e : Some x ≡ None = never in cc
one_first {A} Holds (z ∷ zs) x y (inl this) (inl that) =
    let e : Some x ≡ Some z = this.1 in
    let f : Some y ≡ Some z = that.1 in cc
one_first Holds (z ∷ zs) x y (inl this) (inr that) = absurd (that.0 this.0)
one_first Holds (z ∷ zs) x y (inr this) (inl that) = absurd (this.0 that.0)
one_first Holds (z ∷ zs) x y (inr this) (inr that) = one_first Holds zs x y this.1 that.1

-- what is left of a list begins with the one at this place
pub drop_at : {A : Type 0} → (xs : List A) (i : ℕ) (x : A) → i < length xs → drop i xs ≡ get_or xs i x ∷ drop (i + 1) xs
drop_at xs i x lt = rw (add-one) (drop-cons xs i x lt)

-- what stands at a place of a list, whatever else would be said there
pub read_same : {A : Type 0} → (xs : List A) (i : ℕ) (x y : A) → i < length xs → get_or xs i x ≡ get_or xs i y
read_same [] i x y lt = absurd (omega (arith, lt))
read_same (z ∷ xs) zero x y lt = refl
read_same (z ∷ xs) (suc i) x y lt = read_same xs i x y (omega (arith, lt))

pub judged_here : {K : Type 0} → (Breaks : K → Refusal → Type 0) → (rules : List K) (i : ℕ) (k : K) (r : Refusal)
    → i < length rules → Breaks (get_or rules i k) r → Judges Breaks (drop i rules) (Some r)
judged_here {K} Breaks rules i k r lt is =
    subst (λ (l : List K). Judges Breaks l (Some r)) (sym (drop_at rules i k lt)) (inl (r, is, refl))

pub judged_on : {K : Type 0} → (Breaks : K → Refusal → Type 0) → (rules : List K) (i : ℕ) (k : K)
    → i < length rules → IsUnbroken (Breaks (get_or rules i k)) → (found : Option Refusal)
    → Judges Breaks (drop (i + 1) rules) found → Judges Breaks (drop i rules) found
judged_on {K} Breaks rules i k lt not found rest =
    subst (λ (l : List K). Judges Breaks l found) (sym (drop_at rules i k lt)) (inr (not, rest))

pub judged_all : {K : Type 0} → (Breaks : K → Refusal → Type 0) → (rules : List K) (i : ℕ) → length rules ≤ i
    → Judges Breaks (drop i rules) None
judged_all {K} Breaks rules i long = subst (λ (l : List K). Judges Breaks l None) (sym (drop_all i rules long)) refl

-- what is found of a rule is found of the one that it equals
pub found_as : (x : Case) (d : Demand) (rule known : Rule) (found : Option Breach) → rule ≡ known
    → Finds (IsBroken x d known) found → Finds (IsBroken x d rule) found
found_as x d rule known found same finds = subst (λ (k : Rule). Finds (IsBroken x d k) found) (sym same) finds
