-- Lists that are kept in order.
use Rattle.std.proofs.Common.{◌≡◌, ◌≢◌, ◌⊎◌, ◌<◌, ◌≤◌, ◌+◌, ℕ, zero, suc, false, List, [], ◌∷◌, ◌++◌, length, take, drop, get_or, Contains, Result, Ok, Err, Ordering, refl, sym, ap, ◌∙◌, subst, inl, inr, arith, add-one}
use Rattle.std.specs.Cmp.{IsTotalOrder}
use Rattle.std.specs.List.{AllByRecursion, AllWithin, insert, remove, All}
use Rattle.std.specs.List.Sorted.{IsBinarySearchResult, IsPartitionPoint, IsSearchInRange, IsSortedBy}
use Rattle.std.specs.Ordering.{is_lt, ordering_reverse, nat_cmp, ordering_then, is_eq, MatchOrdering}
use Rattle.std.proofs.lemmas.Bool.{cases_lt}
use Rattle.std.specs.declared.cmp.Ordering.TheVariants.{Less, Equal, Greater}
use Rattle.std.proofs.lemmas.Cmp.{tied_itself, ranked}
use Rattle.std.proofs.lemmas.List.{get_or-take, get_or-drop, length-take, length-drop, take-append-drop, drop_more}
use Rattle.std.proofs.lemmas.List.Elements.{recursion_from_All, All-from_recursion, All-contains, Contains-append_left, Contains-append_right, Contains-append_cases}
use Rattle.std.proofs.lemmas.List.Sorted.{searchable_from_sorted}
use Rattle.std.specs.Cmp.Lexicographic.{slice_cmp, bytes_decides}
use Rattle.std.proofs.lemmas.Map.Text.{is_eq-slice_cmp}
use Rattle.lists.specs.Orders.{IsRising, IsSlot, HasOneMore, HasOneFewer}

not_equal : (o : Ordering) → o ≡ Less → o ≡ Equal → ⊥
not_equal o a b = let no : Less ≡ Equal = sym a ∙ b in cc

not_equal_greater : (o : Ordering) → o ≡ Greater → o ≡ Equal → ⊥
not_equal_greater o a b = let no : Greater ≡ Equal = sym a ∙ b in cc

-- where each value is below those behind it, it is below the next one
pub rising_next : {X : Type 0} (R : X → X → Ordering) (xs : List X) → IsRising R xs → (k : ℕ) (d : X) → suc k < length xs
    → R (get_or xs k d) (get_or xs (suc k) d) ≡ Less
rising_next R [] h k d within = absurd (omega arith)
rising_next R (x ∷ []) h k d within = absurd (omega arith)
rising_next R (x ∷ (y ∷ ys)) h zero d within = h.0.0
rising_next R (x ∷ (y ∷ ys)) h (suc k) d within = rising_next R (y ∷ ys) h.1 k d (omega arith)

-- each is below those behind it
rising_at : {X : Type 0} (R : X → X → Ordering) (xs : List X) → IsRising R xs → (k j : ℕ) (d : X) → k < j → j < length xs
    → R (get_or xs k d) (get_or xs j d) ≡ Less
rising_at R [] h k j d low high = absurd (omega (arith, high))
rising_at R (x ∷ xs) h k zero d low high = absurd (omega (arith, low))
rising_at R (x ∷ xs) h zero (suc j) d low high = All-from_recursion (λ y. R x y ≡ Less) xs h.0 j d (omega (arith, high))
rising_at R (x ∷ xs) h (suc k) (suc j) d low high = rising_at R xs h.1 k j d (omega (arith, low)) (omega (arith, high))

-- where the last of rising values is below one, all are
pub all_below : {K : Type 0} {R : K → K → Ordering} → IsTotalOrder R → {X : Type 0} (key : X → K) (xs : List X) (x : K) (last : ℕ)
    → IsRising (λ a b. R (key a) (key b)) xs → last + 1 ≡ length xs → ((d : X) → R (key (get_or xs last d)) x ≡ Less)
    → All (λ y. R (key y) x ≡ Less) xs
all_below {K} {R} o key xs x last h is below = λ k d within.
    elim (cases_lt k last) [
      | inl lt ↦ o.trans (key (get_or xs k d)) (key (get_or xs last d)) x
          (rising_at (λ a b. R (key a) (key b)) xs h k last d lt (omega (arith, is))) (below d)
      | inr ge ↦ let same : k ≡ last = omega (arith, ge, is, within) in rw same (below d)
    ]

not_below : {K : Type 0} {R : K → K → Ordering} → IsTotalOrder R → (x y : K) → R x y ≡ Less → is_lt (R y x) ≡ false
not_below {K} {R} o x y e = ap is_lt (o.antisymm y x ∙ ap (λ r. ordering_reverse r) e)

sorted_from_rising : {K : Type 0} {R : K → K → Ordering} → IsTotalOrder R → {X : Type 0} (key : X → K) (xs : List X)
    → IsRising (λ a b. R (key a) (key b)) xs → IsSortedBy (λ a b. is_lt (R (key a) (key b))) xs
sorted_from_rising {K} {R} o key xs h = λ k d low high.
    let next = rising_next (λ a b. R (key a) (key b)) xs h k d (omega arith) in
    rw add-one (not_below o (key (get_or xs k d)) (key (get_or xs (suc k) d)) next)

pub slot_from_search : {K : Type 0} {R : K → K → Ordering} → IsTotalOrder R → {X : Type 0} (key : X → K) (xs : List X) (x : K)
    (r : Result ℕ ℕ) → IsRising (λ a b. R (key a) (key b)) xs → IsSearchInRange r (length xs)
    → IsBinarySearchResult (λ y. R (key y) x) xs r → IsSlot (λ y. R (key y) x) xs r
slot_from_search o key xs x (Ok i) h range found = (range, found)
slot_from_search {K} {R} o key xs x (Err i) h range found =
    (range, found (searchable_from_sorted o key xs x (sorted_from_rising o key xs h)))

-- an edit between a front and a back
every_more : {X : Type 0} (P : X → Type 0) (front back : List X) (x : X) → P x → AllByRecursion P (front ++ back)
    → AllByRecursion P (front ++ x ∷ back)
every_more P [] back x p h = (p, h)
every_more P (a ∷ front) back x p h = (h.0, every_more P front back x p h.1)

every_fewer : {X : Type 0} (P : X → Type 0) (front back : List X) (x : X) → AllByRecursion P (front ++ x ∷ back)
    → AllByRecursion P (front ++ back)
every_fewer P [] back x h = h.1
every_fewer P (a ∷ front) back x h = (h.0, every_fewer P front back x h.1)

rising_more : {X : Type 0} (R : X → X → Ordering) (front back : List X) (x : X) → IsRising R (front ++ back)
    → AllByRecursion (λ a. R a x ≡ Less) front → AllByRecursion (λ b. R x b ≡ Less) back → IsRising R (front ++ x ∷ back)
rising_more R [] back x h below above = (above, h)
rising_more R (a ∷ front) back x h below above =
    (every_more (λ y. R a y ≡ Less) front back x below.0 h.0, rising_more R front back x h.1 below.1 above)

rising_fewer : {X : Type 0} (R : X → X → Ordering) (front back : List X) (x : X) → IsRising R (front ++ x ∷ back)
    → IsRising R (front ++ back)
rising_fewer R [] back x h = h.1
rising_fewer R (a ∷ front) back x h = (every_fewer (λ y. R a y ≡ Less) front back x h.0, rising_fewer R front back x h.1)

pub contains_rest : {X : Type 0} (x y : X) (xs : List X) → Contains xs y → Contains (x ∷ xs) y
contains_rest x y xs h = (suc h.0, omega (arith, h.1), h.2)

pub contains_first : {X : Type 0} (x : X) (xs : List X) → Contains (x ∷ xs) x
contains_first x xs = (zero, omega arith, refl)

pub first_or_rest : {X : Type 0} (x y : X) (xs : List X) (k : ℕ) → k < length (x ∷ xs) → get_or (x ∷ xs) k y ≡ y
    → (x ≡ y) ⊎ Contains xs y
first_or_rest x y xs zero within e = inl e
first_or_rest x y xs (suc k) within e = inr (k, omega arith, e)

pub one_more : {X : Type 0} (front back : List X) (x : X) → HasOneMore (front ++ back) x (front ++ x ∷ back)
one_more front back x y = (
  λ h. elim (Contains-append_cases front (x ∷ back) y h) [
    | inl f ↦ inl (Contains-append_left front back y f)
    | inr b ↦ elim (first_or_rest x y back b.0 b.1 b.2) [
      | inl e ↦ inr (sym e)
      | inr r ↦ inl (Contains-append_right front back y r)
    ]
  ],
  λ h. elim h [
    | inl old ↦ elim (Contains-append_cases front back y old) [
      | inl f ↦ Contains-append_left front (x ∷ back) y f
      | inr b ↦ Contains-append_right front (x ∷ back) y (contains_rest x y back b)
    ]
    | inr e ↦ Contains-append_right front (x ∷ back) y (subst (Contains (x ∷ back)) (sym e) (contains_first x back))
  ],
)

-- the value in the middle stands nowhere else
not_beside : {X : Type 0} {R : X → X → Ordering} → IsTotalOrder R → (front back : List X) (x : X) → IsRising R (front ++ x ∷ back)
    → (y : X) → Contains (front ++ back) y → y ≢ x
not_beside {X} {R} o [] back x h y held e =
    not_equal (R x x) (All-contains (λ b. R x b ≡ Less) back x (All-from_recursion (λ b. R x b ≡ Less) back h.0) (subst (Contains back) e held)) (tied_itself o x)
not_beside {X} {R} o (a ∷ front) back x h y held e =
    elim (first_or_rest a y (front ++ back) held.0 held.1 held.2) [
      | inl same ↦ not_equal (R x x)
          (subst (λ z. R z x ≡ Less) (same ∙ e) (All-contains (λ b. R a b ≡ Less) (front ++ x ∷ back) x (All-from_recursion (λ b. R a b ≡ Less) (front ++ x ∷ back) h.0) (Contains-append_right front (x ∷ back) x (contains_first x back))))
          (tied_itself o x)
      | inr rest ↦ not_beside o front back x h.1 y rest e
    ]

one_fewer : {X : Type 0} {R : X → X → Ordering} → IsTotalOrder R → (front back : List X) (x : X) → IsRising R (front ++ x ∷ back)
    → HasOneFewer (front ++ x ∷ back) x (front ++ back)
one_fewer o front back x h y = (
  λ held. ((one_more front back x y).1 (inl held), not_beside o front back x h y held),
  λ both. elim ((one_more front back x y).0 both.0) [ inl old ↦ old | inr e ↦ absurd (both.1 e) ],
)

-- from places to fronts and backs
front_all : {X : Type 0} (P : X → Type 0) (xs : List X) (i : ℕ) → i ≤ length xs → AllWithin P xs 0 i → AllByRecursion P (take i xs)
front_all P xs i within h = recursion_from_All P (take i xs)
    (λ k d below. let lt : k < i = omega (arith, length-take i xs) in rw (get_or-take i xs k d lt) (h k d (omega arith) lt))

back_all : {X : Type 0} (P : X → Type 0) (xs : List X) (i : ℕ) → i ≤ length xs → AllWithin P xs i (length xs) → AllByRecursion P (drop i xs)
back_all P xs i within h = recursion_from_All P (drop i xs)
    (λ k d below. rw (get_or-drop i xs k d) (h (i + k) d (omega arith) (omega (arith, length-drop i xs))))

flipped : {X : Type 0} {R : X → X → Ordering} → IsTotalOrder R → (x y : X) → R y x ≡ Greater → R x y ≡ Less
flipped {X} {R} o x y e = o.antisymm x y ∙ ap (λ r. ordering_reverse r) e

pub rising_insert : {X : Type 0} {R : X → X → Ordering} → IsTotalOrder R → (xs : List X) (i : ℕ) (x : X) → IsRising R xs → i ≤ length xs
    → IsPartitionPoint (λ y. R y x ≡ Less) (λ y. R y x ≡ Greater) xs i → IsRising R (insert xs i x)
rising_insert {X} {R} o xs i x h within parts =
    rising_more R (take i xs) (drop i xs) x (subst (IsRising R) (sym (take-append-drop i xs)) h)
    (front_all (λ y. R y x ≡ Less) xs i within parts.0)
    (back_all (λ y. R x y ≡ Less) xs i within (λ k d low high. flipped o x (get_or xs k d) (parts.1 k d low high)))

pub one_more_insert : {X : Type 0} (xs : List X) (i : ℕ) (x : X) → HasOneMore xs x (insert xs i x)
one_more_insert xs i x =
    subst (λ ys. HasOneMore ys x (insert xs i x)) (take-append-drop i xs) (one_more (take i xs) (drop i xs) x)

around : {X : Type 0} (xs : List X) (i : ℕ) (d : X) → i < length xs → take i xs ++ get_or xs i d ∷ drop (suc i) xs ≡ xs
around xs i d within =
    ap (λ ys. take i xs ++ ys) (sym (rw (← add-one) (drop_more xs i d within))) ∙ take-append-drop i xs

pub rising_remove : {X : Type 0} (R : X → X → Ordering) (xs : List X) (i : ℕ) (d : X) → i < length xs → IsRising R xs
    → IsRising R (remove xs i)
rising_remove R xs i d within h =
    rising_fewer R (take i xs) (drop (suc i) xs) (get_or xs i d) (subst (IsRising R) (sym (around xs i d within)) h)

pub one_fewer_remove : {X : Type 0} {R : X → X → Ordering} → IsTotalOrder R → (xs : List X) (i : ℕ) (d : X) → i < length xs
    → IsRising R xs → HasOneFewer xs (get_or xs i d) (remove xs i)
one_fewer_remove {X} {R} o xs i d within h =
    let same = around xs i d within in
    subst (λ ys. HasOneFewer ys (get_or xs i d) (remove xs i)) same
    (one_fewer o (take i xs) (drop (suc i) xs) (get_or xs i d) (subst (IsRising R) (sym same) h))

-- where a value would go, none is that is equal to it
pub none_equal : {X : Type 0} (order : X → Ordering) (xs : List X) (i : ℕ) → i ≤ length xs
    → IsPartitionPoint (λ y. order y ≡ Less) (λ y. order y ≡ Greater) xs i → (y : X) → Contains xs y → order y ≡ Equal → ⊥
none_equal order xs i within parts y held same =
    let at : order (get_or xs held.0 y) ≡ Equal = rw held.2 same in
    elim (cases_lt held.0 i) [
      | inl lt ↦ not_equal (order (get_or xs held.0 y)) (parts.0 held.0 y (omega arith) lt) at
      | inr ge ↦ not_equal_greater (order (get_or xs held.0 y)) (parts.1 held.0 y ge held.1) at
    ]

-- orders that agree on what stands in the list
every_agree : {X : Type 0} (P Q : X → Type 0) (xs : List X) → ((y : X) → Contains xs y → P y → Q y) → AllByRecursion P xs → AllByRecursion Q xs
every_agree P Q [] f h = h
every_agree P Q (x ∷ xs) f h =
    (f x (zero, omega arith, refl) h.0, every_agree P Q xs (λ y held. f y (suc held.0, omega (arith, held.1), held.2)) h.1)

pub rising_agree : {X : Type 0} (R S : X → X → Ordering) (xs : List X)
    → ((a b : X) → Contains xs a → Contains xs b → R a b ≡ Less → S a b ≡ Less) → IsRising R xs → IsRising S xs
rising_agree R S [] f h = h
rising_agree R S (x ∷ xs) f h = (
  every_agree (λ y. R x y ≡ Less) (λ y. S x y ≡ Less) xs (λ y held. f x y (zero, omega arith, refl) (suc held.0, omega (arith, held.1), held.2)) h.0,
  rising_agree R S xs (λ a b p q. f a b (suc p.0, omega (arith, p.1), p.2) (suc q.0, omega (arith, q.1), q.2)) h.1,
)

pub then_equal : (o p : Ordering) → ordering_then o p ≡ Equal → (o ≡ Equal) × (p ≡ Equal)
then_equal Less p e = let no : Less ≡ Equal = e in cc
then_equal Equal p e = (refl, e)
then_equal Greater p e = let no : Greater ≡ Equal = e in cc

pub nat_equal : (x y : ℕ) → nat_cmp x y ≡ Equal → x ≡ y
nat_equal x y e = subst (λ r. MatchOrdering r (x < y) (x ≡ y) (y < x)) e (ranked x y (nat_cmp x y) refl)

pub same_text : (xs ys : List ℕ) → slice_cmp nat_cmp xs ys ≡ Equal → xs ≡ ys
same_text xs ys e = (bytes_decides xs ys).0 (sym (is_eq-slice_cmp xs ys) ∙ ap is_eq e)

-- the first value is the least
pub first_least : {X : Type 0} (R : X → X → Ordering) (x : X) (xs : List X) (y : X) → IsRising R (x ∷ xs) → Contains (x ∷ xs) y
    → (x ≡ y) ⊎ (R x y ≡ Less)
first_least R x xs y h held =
    elim (first_or_rest x y xs held.0 held.1 held.2) [
      | inl e ↦ inl e
      | inr rest ↦ inr (All-contains (λ b. R x b ≡ Less) xs y (All-from_recursion (λ b. R x b ≡ Less) xs h.0) rest)
    ]
