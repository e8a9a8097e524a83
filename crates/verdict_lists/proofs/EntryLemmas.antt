-- What invocations hold, each row once.
use Rattle.std.proofs.Common.{◌≡◌, ◌↔◌, ◌<◌, ◌+◌, ℕ, zero, suc, Bool, List, [], ◌∷◌, length, map, get_or, Contains, Some, None, Ordering, eqb, refl, sym, ap, ◌∙◌, subst, inl, inr, arith}
use Rattle.std.specs.Cmp.{IsTotalOrder}
use Rattle.std.specs.List.{slice_get, IsDistinct}
use Rattle.std.specs.List.Sorted.{IsSorted, IsPermutation, IsStrictlyIncreasing}
use Rattle.std.specs.Ordering.{nat_cmp, ordering_then, is_eq}
use Rattle.std.specs.declared.cmp.Ordering.TheVariants.{Less, Equal}
use Rattle.std.proofs.lemmas.Bool.{cases_Bool, eqb-true, eq-eqb, true≢false}
use Rattle.std.proofs.lemmas.Cmp.{nat_cmp_total, then_total, on_total, tied_itself, eq_by_cmp_equiv}
use Rattle.std.proofs.lemmas.List.Kept.{AllPairs-from_increasing}
use Rattle.std.proofs.lemmas.List.Sorted.{Contains-permutation, IsPermutation-sym}
use Rattle.std.proofs.lemmas.Map.Keys.{IsDistinct-IsPermutation}
use Rattle.inclusion_graph.specs.Walks.{IsReached}
use Rattle.test_results.specs.Places.{place_if, places_from, places_of}
use Rattle.test_results.specs.declared.result.TestResult.{TestResult}
use Rattle.test_results.specs.declared.exoneration.TestExoneration.{TestExoneration}
use Rattle.test_results.specs.Results.{places_in as result_places}
use Rattle.test_results.specs.Exonerations.{places_in as exoneration_places}
use Rattle.verdict_lists.specs.declared.entries.Entry.{Entry}
use Rattle.verdict_lists.specs.declared.entries.Entry.TheVariants.{Result, Exoneration}
use Rattle.verdict_lists.specs.World.{World}
use Rattle.lists.specs.Orders.{IsRising}
use Rattle.verdict_lists.specs.Entries.{AreReached, IsReachedEntry, entries_in, entries_of, entry_order, number_order}
use Rattle.verdict_lists.proofs.ListLemmas.{In, in_from, contains_from, every_from, every_at, in_left, in_right, in_either, in_map, from_map, in_flat, from_flat, rising_append, rising_map, rising_flat, rising_sorted, distinct_rising}
use Rattle.verdict_lists.proofs.OrderLemmas.{entry_order_total, number_order_total, same_entry, unequal_from}

pub less_from_lt : (x y : ℕ) → x < y → nat_cmp x y ≡ Less
less_from_lt x y h = grind (arith)

-- the places of a holder
abbrev Stands : ℕ → ℕ → List ℕ → ℕ → Type 0
Stands holder start holders place = (k : ℕ) × (place ≡ start + k) × (slice_get holders k ≡ Some holder)

places_at : (holder start : ℕ) (holders : List ℕ) (place : ℕ) → In place (places_from holder start holders) → Stands holder start holders place
places_at holder start [] place h = absurd h
places_at holder start (other ∷ others) place h = elim (cases_Bool (eqb other holder)) [
  | inl t ↦ elim (subst (λ b. In place (place_if b start (places_from holder (suc start) others))) t h) [
    | inl e ↦ (zero, omega arith, ap Some (eqb-true other holder t))
    | inr i ↦ let r = places_at holder (suc start) others place i in (suc r.0, omega (arith, r.1), r.2)
  ]
  | inr f ↦
      let r = places_at holder (suc start) others place (subst (λ b. In place (place_if b start (places_from holder (suc start) others))) f h) in
      (suc r.0, omega (arith, r.1), r.2)
]

in_places : (holder start : ℕ) (holders : List ℕ) (k : ℕ) → slice_get holders k ≡ Some holder → In (start + k) (places_from holder start holders)
in_places holder start [] k e = let never : None ≡ Some holder = e in cc
in_places holder start (other ∷ others) zero e =
    let same : other ≡ holder = cc in
    let there : start ≡ start + 0 = omega arith in
    subst (λ b. In (start + 0) (place_if b start (places_from holder (suc start) others))) (sym (eq-eqb other holder same)) (inl there)
in_places holder start (other ∷ others) (suc k) e =
    let next : suc start + k ≡ start + suc k = omega arith in
    let i : In (start + suc k) (places_from holder (suc start) others) = subst (λ p. In p (places_from holder (suc start) others)) next (in_places holder (suc start) others k e) in
    elim (cases_Bool (eqb other holder)) [
      | inl t ↦ subst (λ b. In (start + suc k) (place_if b start (places_from holder (suc start) others))) (sym t) (inr i)
      | inr f ↦ subst (λ b. In (start + suc k) (place_if b start (places_from holder (suc start) others))) (sym f) i
    ]

rising_places : (holder start : ℕ) (holders : List ℕ) → IsRising nat_cmp (places_from holder start holders)
rising_places holder start [] = tt
rising_places holder start (other ∷ others) =
    let rest = rising_places holder (suc start) others in
    elim (cases_Bool (eqb other holder)) [
      | inl t ↦ subst (λ b. IsRising nat_cmp (place_if b start (places_from holder (suc start) others))) (sym t) (
        every_from (λ p. nat_cmp start p ≡ Less) (places_from holder (suc start) others)
            (λ p i. let r = places_at holder (suc start) others p i in less_from_lt start p (omega (arith, r.1))),
        rest,
      )
      | inr f ↦ subst (λ b. IsRising nat_cmp (place_if b start (places_from holder (suc start) others))) (sym f) rest
    ]

-- a value of a function at a place
mapped_get : {X : Type 0} (f : X → ℕ) (xs : List X) (k : ℕ) (h : ℕ) → slice_get (map f xs) k ≡ Some h → (x : X) × (slice_get xs k ≡ Some x) × (f x ≡ h)
mapped_get f [] k h e = let never : None ≡ Some h = e in cc
mapped_get f (x ∷ xs) zero h e = (x, refl, cc)
mapped_get f (x ∷ xs) (suc k) h e = mapped_get f xs k h e

get_mapped : {X : Type 0} (f : X → ℕ) (xs : List X) (k : ℕ) (x : X) → slice_get xs k ≡ Some x → slice_get (map f xs) k ≡ Some (f x)
get_mapped f [] k x e = let never : None ≡ Some x = e in cc
get_mapped f (y ∷ ys) zero x e = let s : y ≡ x = cc in ap (λ z. Some (f z)) s
get_mapped f (y ∷ ys) (suc k) x e = get_mapped f ys k x e

-- the row of an entry is held by an invocation
abbrev pub HeldBy : World → ℕ → Entry → Type 0
HeldBy world holder (Result place) = (row : TestResult) × (slice_get world.results place ≡ Some row) × (row.holder ≡ holder)
HeldBy world holder (Exoneration place) = (row : TestExoneration) × (slice_get world.exonerations place ≡ Some row) × (row.holder ≡ holder)

from_zero : (holder : ℕ) (holders : List ℕ) (place : ℕ) → In place (places_of holders holder) → slice_get holders place ≡ Some holder
from_zero holder holders place i =
    let r = places_at holder 0 holders place i in
    let same : place ≡ r.0 = omega (arith, r.1) in
    subst (λ p. slice_get holders p ≡ Some holder) (sym same) r.2

to_zero : (holder : ℕ) (holders : List ℕ) (place : ℕ) → slice_get holders place ≡ Some holder → In place (places_of holders holder)
to_zero holder holders place e =
    let same : 0 + place ≡ place = omega arith in subst (λ p. In p (places_of holders holder)) same (in_places holder 0 holders place e)

held_in : (world : World) (holder : ℕ) (entry : Entry) → In entry (entries_in world holder) → HeldBy world holder entry
held_in world holder entry i = elim (in_either (map Result (result_places world.results holder)) (map Exoneration (exoneration_places world.exonerations holder)) entry i) [
  | inl l ↦
      let m = from_map Result (result_places world.results holder) entry l in
      let g = mapped_get (λ (row : TestResult). row.holder) world.results m.0 holder (from_zero holder (map (λ (row : TestResult). row.holder) world.results) m.0 m.1) in
      subst (HeldBy world holder) m.2 g
  | inr r ↦
      let m = from_map Exoneration (exoneration_places world.exonerations holder) entry r in
      let g = mapped_get (λ (row : TestExoneration). row.holder) world.exonerations m.0 holder (from_zero holder (map (λ (row : TestExoneration). row.holder) world.exonerations) m.0 m.1) in
      subst (HeldBy world holder) m.2 g
]

in_held : (world : World) (holder : ℕ) (entry : Entry) → HeldBy world holder entry → In entry (entries_in world holder)
in_held world holder (Result place) h =
    let at : slice_get (map (λ (row : TestResult). row.holder) world.results) place ≡ Some holder = get_mapped (λ (row : TestResult). row.holder) world.results place h.0 h.1 ∙ ap Some h.2 in
    in_left (map Result (result_places world.results holder)) (map Exoneration (exoneration_places world.exonerations holder)) (Result place)
    (in_map Result (result_places world.results holder) place (to_zero holder (map (λ (row : TestResult). row.holder) world.results) place at))
in_held world holder (Exoneration place) h =
    let at : slice_get (map (λ (row : TestExoneration). row.holder) world.exonerations) place ≡ Some holder = get_mapped (λ (row : TestExoneration). row.holder) world.exonerations place h.0 h.1 ∙ ap Some h.2 in
    in_right (map Result (result_places world.results holder)) (map Exoneration (exoneration_places world.exonerations holder)) (Exoneration place)
    (in_map Exoneration (exoneration_places world.exonerations holder) place (to_zero holder (map (λ (row : TestExoneration). row.holder) world.exonerations) place at))

rising_in : (world : World) (holder : ℕ) → IsRising number_order (entries_in world holder)
rising_in world holder =
    rising_append number_order (map Result (result_places world.results holder)) (map Exoneration (exoneration_places world.exonerations holder))
    (rising_map nat_cmp number_order Result (result_places world.results holder) (λ a b i j e. e) (rising_places holder 0 (map (λ (row : TestResult). row.holder) world.results)))
    (rising_map nat_cmp number_order Exoneration (exoneration_places world.exonerations holder) (λ a b i j e. e) (rising_places holder 0 (map (λ (row : TestExoneration). row.holder) world.exonerations)))
    (λ a b i j.
    let m = from_map Result (result_places world.results holder) a i in
    let n = from_map Exoneration (exoneration_places world.exonerations holder) b j in
    subst (λ x. number_order x b ≡ Less) m.2 (subst (λ y. number_order (Result m.0) y ≡ Less) n.2 refl))

-- The order in which rows are taken: by the invocation that holds them, and then as above.
abbrev holder_at : World → Entry → ℕ
holder_at world (Result place) = get_or (map (λ (row : TestResult). row.holder) world.results) place 0
holder_at world (Exoneration place) = get_or (map (λ (row : TestExoneration). row.holder) world.exonerations) place 0

abbrev taken_order : World → Entry → Entry → Ordering
taken_order world a b = ordering_then (nat_cmp (holder_at world a) (holder_at world b)) (number_order a b)

taken_order_total : (world : World) → IsTotalOrder (taken_order world)
taken_order_total world = then_total (on_total (holder_at world) nat_cmp_total) number_order_total

holder_get : {X : Type 0} (f : X → ℕ) (xs : List X) (k : ℕ) (x : X) → slice_get xs k ≡ Some x → get_or (map f xs) k 0 ≡ f x
holder_get f [] k x e = let never : None ≡ Some x = e in cc
holder_get f (y ∷ ys) zero x e = let s : y ≡ x = cc in ap f s
holder_get f (y ∷ ys) (suc k) x e = holder_get f ys k x e

holder_is : (world : World) (holder : ℕ) (entry : Entry) → HeldBy world holder entry → holder_at world entry ≡ holder
holder_is world holder (Result place) h = holder_get (λ (row : TestResult). row.holder) world.results place h.0 h.1 ∙ h.2
holder_is world holder (Exoneration place) h = holder_get (λ (row : TestExoneration). row.holder) world.exonerations place h.0 h.1 ∙ h.2

pub rising_agree : {X : Type 0} (R S : X → X → Ordering) (xs : List X) → ((a b : X) → In a xs → In b xs → R a b ≡ Less → S a b ≡ Less)
    → IsRising R xs → IsRising S xs
rising_agree R S [] f h = tt
rising_agree R S (x ∷ xs) f h = (
  every_from (λ y. S x y ≡ Less) xs (λ y i. f x y (inl refl) (inr i) (every_at (λ z. R x z ≡ Less) xs h.0 y i)),
  rising_agree R S xs (λ a b i j. f a b (inr i) (inr j)) h.1,
)

rising_numbers : (xs : List ℕ) → ((i j d : ℕ) → i < j → j < length xs → get_or xs i d < get_or xs j d) → IsRising nat_cmp xs
rising_numbers [] f = tt
rising_numbers (x ∷ xs) f = (
  every_from (λ y. nat_cmp x y ≡ Less) xs (λ y i.
      let held = contains_from xs y i in
      less_from_lt x y (subst (λ z. x < z) held.2 (f zero (suc held.0) y (omega arith) (omega (arith, held.1))))),
  rising_numbers xs (λ i j d lt within. f (suc i) (suc j) d (omega arith) (omega arith)),
)

taken_rise : (world : World) (nodes : List ℕ) → IsRising nat_cmp nodes → IsRising (taken_order world) (entries_of world nodes)
taken_rise world nodes h = rising_flat nat_cmp (taken_order world) (entries_in world) nodes
    (λ n i. rising_agree number_order (taken_order world) (entries_in world n) (λ a b p q e.
    let same : holder_at world a ≡ holder_at world b = holder_is world n a (held_in world n a p) ∙ sym (holder_is world n b (held_in world n b q)) in
    let equal : nat_cmp (holder_at world a) (holder_at world b) ≡ Equal = subst (λ m. nat_cmp (holder_at world a) m ≡ Equal) same (tied_itself nat_cmp_total (holder_at world a)) in
    ap (λ o. ordering_then o (number_order a b)) equal ∙ e) (rising_in world n))
    (λ m n a b i j e p q.
    let first : holder_at world a ≡ m = holder_is world m a (held_in world m a p) in
    let second : holder_at world b ≡ n = holder_is world n b (held_in world n b q) in
    ap (λ o. ordering_then o (number_order a b)) (ap (λ x. nat_cmp x (holder_at world b)) first ∙ ap (nat_cmp m) second ∙ e))
    h

entries_rise : (world : World) (nodes : List ℕ) (sorted : List Entry) → IsRising nat_cmp nodes → IsPermutation (entries_of world nodes) sorted
    → IsSorted (entry_order world) sorted → IsRising (entry_order world) sorted
entries_rise world nodes sorted h p up =
    let E : Entry → Entry → Bool = λ a b. is_eq (taken_order world a b) in
    let o = taken_order_total world in
    let apart : IsDistinct E sorted = IsDistinct-IsPermutation E (eq_by_cmp_equiv o).symm (entries_of world nodes) sorted p
    (distinct_rising (taken_order world) (entries_of world nodes) (taken_rise world nodes h)) in
    rising_sorted (entry_order_total world) E (λ a b apart_. unequal_from (entry_order world a b) (λ e.
    let same : a ≡ b = same_entry world a b e in
    let tied : taken_order world a b ≡ Equal = subst (λ x. taken_order world a x ≡ Equal) same (tied_itself o a) in
    true≢false (sym (ap is_eq tied) ∙ apart_))) sorted up apart

reached_from : (world : World) (roots : List ℕ) (holder : ℕ) (entry : Entry) → IsReached world.edges roots holder → HeldBy world holder entry
    → IsReachedEntry world roots entry
reached_from world roots holder (Result place) r h = (h.0, h.1, subst (IsReached world.edges roots) (sym h.2) r)
reached_from world roots holder (Exoneration place) r h = (h.0, h.1, subst (IsReached world.edges roots) (sym h.2) r)

abbrev HasHolder : World → List ℕ → Entry → Type 0
HasHolder world roots entry = (holder : ℕ) × IsReached world.edges roots holder × HeldBy world holder entry

from_reached : (world : World) (roots : List ℕ) (entry : Entry) → IsReachedEntry world roots entry → HasHolder world roots entry
from_reached world roots (Result place) h = (h.0.holder, h.2, (h.0, h.1, refl))
from_reached world roots (Exoneration place) h = (h.0.holder, h.2, (h.0, h.1, refl))

pub are_reached : (world : World) (roots nodes : List ℕ) (sorted : List Entry) → ((node : ℕ) → Contains nodes node ↔ IsReached world.edges roots node)
    → IsStrictlyIncreasing nodes → IsPermutation (entries_of world nodes) sorted → IsSorted (entry_order world) sorted → AreReached world roots sorted
are_reached world roots nodes sorted all rise p up = record {
  all = λ entry. (
    λ held.
        let f = from_flat (entries_in world) nodes entry (in_from (entries_of world nodes) entry
        (Contains-permutation sorted (entries_of world nodes) entry (IsPermutation-sym (entries_of world nodes) sorted p) held)) in
        reached_from world roots f.0 entry ((all f.0).0 (contains_from nodes f.0 f.1)) (held_in world f.0 entry f.2),
    λ reached.
        let f = from_reached world roots entry reached in
        Contains-permutation (entries_of world nodes) sorted entry p (contains_from (entries_of world nodes) entry
        (in_flat (entries_in world) nodes f.0 entry (in_from nodes f.0 ((all f.0).1 f.1)) (in_held world f.0 entry f.2))),
  );
  rise = entries_rise world nodes sorted (rising_numbers nodes (AllPairs-from_increasing nodes rise)) p up;
}
