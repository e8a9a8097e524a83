-- The laws of the targets that are new.
use Rattle.std.proofs.Common.{◌≡◌, ◌≢◌, ◌<◌, ℕ, zero, suc, true, false, List, [], ◌∷◌, ◌++◌, Some, None, Contains, refl, sym, ap, ◌∙◌, subst, inl, inr, arith}
use Rattle.std.specs.List.{slice_get}
use Rattle.std.proofs.lemmas.Bool.{cases_Bool, cases_eq, cases_lt}
use Rattle.std.proofs.lemmas.List.Elements.{Contains-append_cases, Contains-append_left, Contains-append_right}
use Rattle.std.proofs.lemmas.Option.{same_Some}
use Rattle.inclusion_graph.specs.Edges.{fresh, has}
use Rattle.inclusion_graph.specs.Laws.{AreNew, FreshAreNew, IsFirstPlace, NewAreOneList}
use Rattle.inclusion_graph.proofs.ListLemmas.{contained, fresh_held, fresh_new, has_from, held_from, in_one, place_held}

nothing_at : (i n : ℕ) → slice_get [] i ≡ Some n → ⊥
nothing_at i n e = let no : None ≡ Some n = e in cc

front_held : (x : ℕ) (xs : List ℕ) → Contains (x ∷ xs) x
front_held x xs = (0, omega arith, refl)

rest_held : (x : ℕ) (xs : List ℕ) (n : ℕ) → Contains xs n → Contains (x ∷ xs) n
rest_held x xs n held = (suc held.0, omega (arith, held.1), held.2)

not_held : (seen : List ℕ) (n : ℕ) → has seen n ≡ false → Contains seen n → ⊥
not_held seen n new held = let no : true ≡ false = sym (has_from seen n held) ∙ new in cc

not_has : (seen : List ℕ) (n : ℕ) → (¬ Contains seen n) → has seen n ≡ false
not_has seen n none =
    elim (cases_Bool (has seen n)) [ inl held ↦ absurd (none (held_from seen n held)) | inr new ↦ new ]

-- first places, in a list with a number more in front

first_here : (x : ℕ) (xs : List ℕ) → IsFirstPlace (x ∷ xs) x 0
first_here x xs = (refl, λ before low. absurd (omega (arith, low)))

none_earlier : (x n : ℕ) (xs : List ℕ) (p : ℕ) → x ≢ n → ((b : ℕ) → b < p → slice_get xs b ≢ Some n)
    → (before : ℕ) → before < suc p → slice_get (x ∷ xs) before ≢ Some n
none_earlier x n xs p other none zero low e = other (same_Some x n e)
none_earlier x n xs p other none (suc b) low e = none b (omega (arith, low)) e

first_in_rest : (x n : ℕ) (xs : List ℕ) (q : ℕ) → x ≢ n → IsFirstPlace (x ∷ xs) n q → (p : ℕ) × (q ≡ suc p) × IsFirstPlace xs n p
first_in_rest x n xs zero other h = absurd (other (same_Some x n h.0))
first_in_rest x n xs (suc p) other h = (p, refl, (h.0, λ b low. h.1 (suc b) (omega (arith, low))))

first_there : (xs : List ℕ) (n i : ℕ) → slice_get xs i ≡ Some n → (p : ℕ) × IsFirstPlace xs n p
first_there [] n i e = absurd (nothing_at i n e)
first_there (x ∷ xs) n zero e = (0, subst (λ (m : ℕ). IsFirstPlace (x ∷ xs) m 0) (same_Some x n e) (first_here x xs))
first_there (x ∷ xs) n (suc i) e = elim (cases_eq x n) [
  | inl same ↦ (0, subst (λ (m : ℕ). IsFirstPlace (x ∷ xs) m 0) same (first_here x xs))
  | inr other ↦
      let later = first_there xs n i e in
      (suc later.0, (later.1.0, none_earlier x n xs later.0 other later.1.1))
]

-- what is fresh is a target, and isn't seen

from_new : (seen ns : List ℕ) (n : ℕ) → has seen n ≡ false
    → ((m i : ℕ) → slice_get (fresh (seen ++ n ∷ []) ns) i ≡ Some m → Contains ns m × (¬ Contains (seen ++ n ∷ []) m))
    → (m i : ℕ) → slice_get (n ∷ fresh (seen ++ n ∷ []) ns) i ≡ Some m → Contains (n ∷ ns) m × (¬ Contains seen m)
from_new seen ns n new rest m zero e =
    subst (λ (k : ℕ). Contains (n ∷ ns) k × (¬ Contains seen k)) (same_Some n m e) (front_held n ns, not_held seen n new)
from_new seen ns n new rest m (suc i) e =
    let later = rest m i e in
    (rest_held n ns m later.0, λ held. later.1 (Contains-append_left seen (n ∷ []) m held))

from_fresh : (seen ns : List ℕ) (m i : ℕ) → slice_get (fresh seen ns) i ≡ Some m → Contains ns m × (¬ Contains seen m)
from_fresh seen [] m i e = absurd (nothing_at i m e)
from_fresh seen (n ∷ ns) m i e = elim (cases_Bool (has seen n)) [
  | inl held ↦
      let later = from_fresh seen ns m i (sym (ap (λ xs. slice_get xs i) (fresh_held seen ns n held)) ∙ e) in
      (rest_held n ns m later.0, later.1)
  | inr new ↦ from_new seen ns n new (from_fresh (seen ++ n ∷ []) ns) m i (sym (ap (λ xs. slice_get xs i) (fresh_new seen ns n new)) ∙ e)
]

-- a target that isn't seen is fresh

later_at : (x n : ℕ) (xs : List ℕ) (i : ℕ) → x ≢ n → slice_get (x ∷ xs) i ≡ Some n → (j : ℕ) × (slice_get xs j ≡ Some n)
later_at x n xs zero other e = absurd (other (same_Some x n e))
later_at x n xs (suc j) other e = (j, e)

not_seen : (seen : List ℕ) (n m : ℕ) → n ≢ m → (¬ Contains seen m) → ¬ Contains (seen ++ n ∷ []) m
not_seen seen n m other none = λ held. elim (Contains-append_cases seen (n ∷ []) m held) [
  | inl old ↦ none old
  | inr here ↦ other (in_one n m here)
]

in_fresh : (seen ns : List ℕ) (m i : ℕ) → slice_get ns i ≡ Some m → (¬ Contains seen m) → Contains (fresh seen ns) m
in_fresh seen [] m i e none = absurd (nothing_at i m e)
in_fresh seen (n ∷ ns) m i e none = elim (cases_eq n m) [
  | inl same ↦
      let new : has seen n ≡ false = not_has seen n (subst (λ (k : ℕ). ¬ Contains seen k) (sym same) none) in
      subst (λ xs. Contains xs m) (sym (fresh_new seen ns n new)) (subst (Contains (n ∷ fresh (seen ++ n ∷ []) ns)) same (front_held n (fresh (seen ++ n ∷ []) ns)))
  | inr other ↦
      let later = later_at n m ns i other e in
      elim (cases_Bool (has seen n)) [
        | inl held ↦ subst (λ xs. Contains xs m) (sym (fresh_held seen ns n held)) (in_fresh seen ns m later.0 later.1 none)
        | inr new ↦
            subst (λ xs. Contains xs m) (sym (fresh_new seen ns n new))
            (rest_held n (fresh (seen ++ n ∷ []) ns) m (in_fresh (seen ++ n ∷ []) ns m later.0 later.1 (not_seen seen n m other none)))
      ]
]

-- the order of what is fresh

abbrev AreInOrder : List ℕ → List ℕ → Type 0
AreInOrder targets new =
    (i j m n p q : ℕ) → i < j → slice_get new i ≡ Some m → slice_get new j ≡ Some n → IsFirstPlace targets m p → IsFirstPlace targets n q → p < q

other_new : (seen : List ℕ) (x m : ℕ) → (¬ Contains (seen ++ x ∷ []) m) → x ≢ m
other_new seen x m none = λ same. none (Contains-append_right seen (x ∷ []) m (subst (Contains (x ∷ [])) same (front_held x [])))

before_later : (x m : ℕ) (xs : List ℕ) (p q : ℕ) → x ≡ m → IsFirstPlace (x ∷ xs) m p → p < suc q
before_later x m xs zero q same f = omega arith
before_later x m xs (suc p) q same f = absurd (f.1 0 (omega arith) (ap Some same))

order_new : (seen xs : List ℕ) (x : ℕ) → AreInOrder xs (fresh (seen ++ x ∷ []) xs) → AreInOrder (x ∷ xs) (x ∷ fresh (seen ++ x ∷ []) xs)
order_new seen xs x rest zero zero m n p q low a b f g = absurd (omega (arith, low))
order_new seen xs x rest (suc i) zero m n p q low a b f g = absurd (omega (arith, low))
order_new seen xs x rest zero (suc j) m n p q low a b f g =
    let (r, is, later) = first_in_rest x n xs q (other_new seen x n (from_fresh (seen ++ x ∷ []) xs n j b).1) g in
    subst (λ (k : ℕ). p < k) (sym is) (before_later x m xs p r (same_Some x m a) f)
order_new seen xs x rest (suc i) (suc j) m n p q low a b f g =
    let (r, is, first) = first_in_rest x m xs p (other_new seen x m (from_fresh (seen ++ x ∷ []) xs m i a).1) f in
    let (s, equals, second) = first_in_rest x n xs q (other_new seen x n (from_fresh (seen ++ x ∷ []) xs n j b).1) g in
    omega (arith, is, equals, rest i j m n r s (omega (arith, low)) a b first second)

order_held : (seen xs : List ℕ) (x : ℕ) → has seen x ≡ true → AreInOrder xs (fresh seen xs) → AreInOrder (x ∷ xs) (fresh seen xs)
order_held seen xs x held rest i j m n p q low a b f g =
    let (r, is, first) = first_in_rest x m xs p (λ same. (from_fresh seen xs m i a).1 (subst (Contains seen) same (held_from seen x held))) f in
    let (s, equals, second) = first_in_rest x n xs q (λ same. (from_fresh seen xs n j b).1 (subst (Contains seen) same (held_from seen x held))) g in
    omega (arith, is, equals, rest i j m n r s low a b first second)

fresh_order : (seen ns : List ℕ) → AreInOrder ns (fresh seen ns)
fresh_order seen [] = λ i j m n p q low a b f g. absurd (nothing_at i m a)
fresh_order seen (n ∷ ns) = elim (cases_Bool (has seen n)) [
  | inl held ↦ subst (AreInOrder (n ∷ ns)) (sym (fresh_held seen ns n held)) (order_held seen ns n held (fresh_order seen ns))
  | inr new ↦ subst (AreInOrder (n ∷ ns)) (sym (fresh_new seen ns n new)) (order_new seen ns n (fresh_order (seen ++ n ∷ []) ns))
]

-- numbers in order, each with a first place, stand once
once : (targets new : List ℕ) → AreInOrder targets new → (i j n p : ℕ) → IsFirstPlace targets n p → slice_get new i ≡ Some n → slice_get new j ≡ Some n → i ≡ j
once targets new order i j n p first a b = elim (cases_eq i j) [
  | inl same ↦ same
  | inr other ↦ elim (cases_lt i j) [
    | inl low ↦ let no = order i j n n p p low a b first first in absurd (omega (arith, no))
    | inr high ↦ let no = order j i n n p p (omega (arith, high, other)) b a first first in absurd (omega (arith, no))
  ]
]

pub fresh_are_new : FreshAreNew
fresh_are_new held targets = record {
  all = λ n. (
    λ is. let at = place_held (fresh held targets) n is in from_fresh held targets n at.0 at.1,
    λ both. let at = place_held targets n both.0 in in_fresh held targets n at.0 at.1 both.1,
  );
  once = λ i j n a b.
      let at = place_held targets n (from_fresh held targets n i a).0 in
      let first = first_there targets n at.0 at.1 in
      once targets (fresh held targets) (fresh_order held targets) i j n first.0 first.1 a b;
  order = fresh_order held targets;
}

-- lists in order that have the same numbers

abbrev HasFirstPlaces : List ℕ → List ℕ → Type 0
HasFirstPlaces targets new = (i n : ℕ) → slice_get new i ≡ Some n → (p : ℕ) × IsFirstPlace targets n p

abbrev AreAmong : List ℕ → List ℕ → Type 0
AreAmong xs ys = (i n : ℕ) → slice_get xs i ≡ Some n → (j : ℕ) × (slice_get ys j ≡ Some n)

-- what a list has in another, behind its own first number
same_heads : (targets xs ys : List ℕ) (x y : ℕ) → AreInOrder targets (x ∷ xs) → AreInOrder targets (y ∷ ys) → HasFirstPlaces targets (x ∷ xs) → HasFirstPlaces targets (y ∷ ys)
    → AreAmong (x ∷ xs) (y ∷ ys) → AreAmong (y ∷ ys) (x ∷ xs) → x ≡ y
same_heads targets xs ys x y one other first second to from = elim (cases_eq x y) [
  | inl same ↦ same
  | inr differ ↦
      let (p, px) = first 0 x refl in
      let (q, qy) = second 0 y refl in
      let there = to 0 x refl in
      let back = from 0 y refl in
      let (j, at) = later_at y x ys there.0 (λ e. differ (sym e)) there.1 in
      let (i, in_) = later_at x y xs back.0 differ back.1 in
      let lower = other 0 (suc j) y x q p (omega arith) refl at qy px in
      let higher = one 0 (suc i) x y p q (omega arith) refl in_ px qy in
      absurd (omega (arith, lower, higher))
]

among_rest : (targets xs ys : List ℕ) (x y : ℕ) → x ≡ y → AreInOrder targets (x ∷ xs) → HasFirstPlaces targets (x ∷ xs) → AreAmong (x ∷ xs) (y ∷ ys) → AreAmong xs ys
among_rest targets xs ys x y same order first to = λ i n at.
    let (p, is) = first (suc i) n at in
    let there = to (suc i) n at in
    later_at y n ys there.0
    (λ e.
    let again : slice_get (x ∷ xs) 0 ≡ Some n = ap Some (same ∙ e) in
    let no = order 0 (suc i) n n p p (omega arith) again at is is in
    omega (arith, no))
    there.1

one_list : (targets xs ys : List ℕ) → AreInOrder targets xs → AreInOrder targets ys → HasFirstPlaces targets xs → HasFirstPlaces targets ys
    → AreAmong xs ys → AreAmong ys xs → xs ≡ ys
one_list targets [] [] one other first second to from = refl
one_list targets [] (y ∷ ys) one other first second to from = let no = from 0 y refl in absurd (nothing_at no.0 y no.1)
one_list targets (x ∷ xs) [] one other first second to from = let no = to 0 x refl in absurd (nothing_at no.0 x no.1)
one_list targets (x ∷ xs) (y ∷ ys) one other first second to from =
    let same : x ≡ y = same_heads targets xs ys x y one other first second to from in
    let rest : xs ≡ ys =
    one_list targets xs ys
    (λ i j m n p q low. one (suc i) (suc j) m n p q (omega (arith, low)))
    (λ i j m n p q low. other (suc i) (suc j) m n p q (omega (arith, low)))
    (λ i. first (suc i)) (λ i. second (suc i))
    (among_rest targets xs ys x y same one first to) (among_rest targets ys xs y x (sym same) other second from) in
    ap (λ (n : ℕ). n ∷ xs) same ∙ ap (λ (ns : List ℕ). y ∷ ns) rest

firsts_of : (held targets new : List ℕ) → AreNew held targets new → HasFirstPlaces targets new
firsts_of held targets new h = λ i n at.
    let there = place_held targets n ((h.all n).0 (contained new i n at)).0 in
    first_there targets n there.0 there.1

among_of : (held targets one other : List ℕ) → AreNew held targets one → AreNew held targets other → AreAmong one other
among_of held targets one other h g = λ i n at. place_held other n ((g.all n).1 ((h.all n).0 (contained one i n at)))

pub new_are_one_list : NewAreOneList
new_are_one_list held targets one other h g =
    one_list targets one other h.order g.order (firsts_of held targets one h) (firsts_of held targets other g)
    (among_of held targets one other h g) (among_of held targets other one g h)
