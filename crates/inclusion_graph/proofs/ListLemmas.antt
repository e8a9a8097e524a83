-- Numbers that a list has, marks for them, and places in lists.
use Rattle.std.proofs.Common.{◌≡◌, ◌≢◌, ◌⊎◌, ◌<◌, ◌≤◌, ℕ, zero, suc, Bool, true, false, List, [], ◌∷◌, ◌++◌, length, get_or, set, Contains, Some, refl, sym, ap, ◌∙◌, subst, inl, inr, arith, append_assoc}
use Rattle.std.specs.List.{slice_get, All}
use Rattle.std.proofs.lemmas.Bool.{cases_Bool, cases_eq, cond-true, cond-false}
use Rattle.std.proofs.lemmas.Bool.Decides.{Decides-eqb}
use Rattle.std.proofs.lemmas.Cmp.{nat_eq_equiv}
use Rattle.std.proofs.lemmas.List.{get_or-set_same, get_or-set_other, length-set, append-nil}
use Rattle.std.proofs.lemmas.List.Elements.{All-cons, All-head, All-tail, Contains-append_cases, Contains-append_left, Contains-push}
use Rattle.std.proofs.lemmas.Map.Views.{list_any-from_Contains, Contains-from_any}
use Rattle.std.proofs.lemmas.Option.{slice_get_within, get_or_from_slice_get, slice_get-get_or}
use Rattle.inclusion_graph.specs.Edges.{has, fresh}
use Rattle.inclusion_graph.specs.Searches.{HasMarks}

pub has_from : (xs : List ℕ) (n : ℕ) → Contains xs n → has xs n ≡ true
has_from xs n held = list_any-from_Contains nat_eq_equiv n xs held

pub held_from : (xs : List ℕ) (n : ℕ) → has xs n ≡ true → Contains xs n
held_from xs n e = Contains-from_any (λ x y s. (Decides-eqb x y).0 s) n xs e

same_Bool : (a b : Bool) → (a ≡ true → b ≡ true) → (b ≡ true → a ≡ true) → a ≡ b
same_Bool true true f g = refl
same_Bool true false f g = sym (f refl)
same_Bool false true f g = g refl
same_Bool false false f g = refl

one : {X : Type 0} (x y : X) (k : ℕ) → k < length (x ∷ []) → get_or (x ∷ []) k y ≡ y → x ≡ y
one x y zero within e = e
one x y (suc k) within e = absurd (omega arith)

pub in_one : {X : Type 0} (x y : X) → Contains (x ∷ []) y → x ≡ y
in_one x y held = one x y held.0 held.1 held.2

pub has_other : (xs : List ℕ) (x n : ℕ) → n ≢ x → has (xs ++ x ∷ []) n ≡ has xs n
has_other xs x n other = same_Bool (has (xs ++ x ∷ []) n) (has xs n)
    (λ e. elim (Contains-append_cases xs (x ∷ []) n (held_from (xs ++ x ∷ []) n e)) [
      | inl old ↦ has_from xs n old
      | inr new ↦ absurd (other (sym (in_one x n new)))
    ])
    (λ e. has_from (xs ++ x ∷ []) n (Contains-append_left xs (x ∷ []) n (held_from xs n e)))

pub has_last : (xs : List ℕ) (x : ℕ) → has (xs ++ x ∷ []) x ≡ true
has_last xs x = has_from (xs ++ x ∷ []) x (Contains-push xs x)

-- a mark more
pub says_more : (marks : List Bool) (xs : List ℕ) (n : ℕ) → n < length marks
    → ((m : ℕ) → m < length marks → get_or marks m false ≡ has xs m)
    → (m : ℕ) → m < length marks → get_or (set marks n true) m false ≡ has (xs ++ n ∷ []) m
says_more marks xs n below h m within =
    elim (cases_eq m n) [
      | inl same ↦ subst (λ k. get_or (set marks n true) k false ≡ has (xs ++ n ∷ []) k) (sym same)
          (get_or-set_same marks n true false below ∙ sym (has_last xs n))
      | inr other ↦ get_or-set_other marks n m true false other ∙ h m within ∙ sym (has_other xs n m other)
    ]

pub marks_more : (marks : List Bool) (below : ℕ) (xs : List ℕ) (n : ℕ) → n < below → HasMarks marks below xs
    → HasMarks (set marks n true) below (xs ++ n ∷ [])
marks_more marks below xs n lt h =
    let at : n < length marks = omega (arith, h.0) in (
      length-set marks n true ∙ h.0,
      λ m within. says_more marks xs n at (λ k low. h.1 k (omega (arith, h.0))) m (omega (arith, h.0)),
    )

-- the new numbers, one by one
pub fresh_held : (xs ns : List ℕ) (n : ℕ) → has xs n ≡ true → fresh xs (n ∷ ns) ≡ fresh xs ns
fresh_held xs ns n e = cond-true (has xs n) (fresh xs ns) (n ∷ fresh (xs ++ n ∷ []) ns) e

pub fresh_new : (xs ns : List ℕ) (n : ℕ) → has xs n ≡ false → fresh xs (n ∷ ns) ≡ n ∷ fresh (xs ++ n ∷ []) ns
fresh_new xs ns n e = cond-false (has xs n) (fresh xs ns) (n ∷ fresh (xs ++ n ∷ []) ns) e

pub fresh_step : (xs ns : List ℕ) (n : ℕ)
    → xs ++ fresh xs (n ∷ ns) ≡ (xs ++ fresh xs (n ∷ [])) ++ fresh (xs ++ fresh xs (n ∷ [])) ns
fresh_step xs ns n =
    elim (cases_Bool (has xs n)) [
      | inl yes_ ↦
          let none : xs ++ fresh xs (n ∷ []) ≡ xs = ap (λ ys. xs ++ ys) (fresh_held xs [] n yes_) ∙ append-nil xs in
          ap (λ ys. xs ++ ys) (fresh_held xs ns n yes_) ∙ sym (ap (λ ys. ys ++ fresh ys ns) none)
      | inr no_ ↦
          let more : xs ++ fresh xs (n ∷ []) ≡ xs ++ n ∷ [] = ap (λ ys. xs ++ ys) (fresh_new xs [] n no_) in
          ap (λ ys. xs ++ ys) (fresh_new xs ns n no_) ∙ sym (append_assoc xs (n ∷ []) (fresh (xs ++ n ∷ []) ns))
          ∙ sym (ap (λ ys. ys ++ fresh ys ns) more)
    ]

-- what stands at a place of two lists
pub at_left : {X : Type 0} (xs ys : List X) (i : ℕ) → i < length xs → slice_get (xs ++ ys) i ≡ slice_get xs i
at_left [] ys i within = absurd (omega arith)
at_left (x ∷ xs) ys zero within = refl
at_left (x ∷ xs) ys (suc i) within = at_left xs ys i (omega arith)

pub at_end : {X : Type 0} (xs : List X) (x : X) → slice_get (xs ++ x ∷ []) (length xs) ≡ Some x
at_end [] x = refl
at_end (y ∷ ys) x = at_end ys x

pub at_either : {X : Type 0} (xs ys : List X) (i : ℕ) (x : X) → slice_get (xs ++ ys) i ≡ Some x
    → (slice_get xs i ≡ Some x) ⊎ ((length xs ≤ i) × Contains ys x)
at_either [] ys i x e = inr (omega arith, (i, slice_get_within ys i x e, get_or_from_slice_get ys i x x e))
at_either (z ∷ zs) ys zero x e = inl e
at_either (z ∷ zs) ys (suc i) x e =
    elim (at_either zs ys i x e) [ inl old ↦ inl old | inr new ↦ inr (omega (arith, new.0), new.1) ]

pub contained : {X : Type 0} (xs : List X) (i : ℕ) (x : X) → slice_get xs i ≡ Some x → Contains xs x
contained xs i x e = (i, slice_get_within xs i x e, get_or_from_slice_get xs i x x e)

pub place_held : {X : Type 0} (xs : List X) (x : X) → Contains xs x → (i : ℕ) × (slice_get xs i ≡ Some x)
place_held xs x held = (held.0, slice_get-get_or xs held.0 x held.1 ∙ ap Some held.2)

pub at_set_same : {X : Type 0} (xs : List X) (p : ℕ) (v : X) → p < length xs → slice_get (set xs p v) p ≡ Some v
at_set_same [] p v within = absurd (omega arith)
at_set_same (x ∷ xs) zero v within = refl
at_set_same (x ∷ xs) (suc p) v within = at_set_same xs p v (omega arith)

pub at_set_other : {X : Type 0} (xs : List X) (p q : ℕ) (v : X) → q ≢ p → slice_get (set xs p v) q ≡ slice_get xs q
at_set_other [] p q v other = refl
at_set_other (x ∷ xs) zero zero v other = absurd (other refl)
at_set_other (x ∷ xs) zero (suc q) v other = refl
at_set_other (x ∷ xs) (suc p) zero v other = refl
at_set_other (x ∷ xs) (suc p) (suc q) v other = at_set_other xs p q v (λ e. other (ap suc e))

pub fresh_within : (P : ℕ → Type 0) (seen ns : List ℕ) → All P ns → All P (fresh seen ns)
fresh_within P seen [] h = h
fresh_within P seen (n ∷ ns) h =
    elim (cases_Bool (has seen n)) [
      | inl held ↦ subst (All P) (sym (fresh_held seen ns n held)) (fresh_within P seen ns (All-tail P n ns h))
      | inr new ↦ subst (All P) (sym (fresh_new seen ns n new))
          (All-cons P n (fresh (seen ++ n ∷ []) ns) (All-head P n ns h) (fresh_within P (seen ++ n ∷ []) ns (All-tail P n ns h)))
    ]
