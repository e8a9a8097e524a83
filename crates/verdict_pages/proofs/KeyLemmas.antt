-- The keys of verdicts rise, and those of results.
use Rattle.std.proofs.Common.{◌≡◌, ◌<◌, ◌≤◌, ◌+◌, ℕ, cond, List, [], ◌∷◌, ◌++◌, Ordering, refl, ap, ◌∙◌, subst, inl, inr, arith}
use Rattle.std.specs.Cmp.{IsTotalOrder}
use Rattle.std.specs.Cmp.Lexicographic.{slice_cmp, nat_list_cmp_total}
use Rattle.std.specs.List.{count_by}
use Rattle.std.specs.Ordering.{nat_cmp, ordering_then, is_eq}
use Rattle.std.specs.declared.cmp.Ordering.TheVariants.{Less, Equal, Greater}
use Rattle.std.proofs.lemmas.Cmp.{then_total, on_total, nat_cmp_total, tied_itself}
use Rattle.std.proofs.lemmas.List.Sums.{sum_by-append}
use Rattle.verdict_lists.specs.declared.verdict.Verdict.{Verdict}
use Rattle.verdict_lists.specs.World.{World, AreRoots, IsKept, IsReachedResult}
use Rattle.lists.specs.Orders.{IsRising}
use Rattle.verdict_lists.specs.Orders.{pairs_order, result_key_at}
use Rattle.verdict_lists.specs.Listing.{listed_order, names_order}
use Rattle.verdict_lists.specs.Statuses.{status_number}
use Rattle.verdict_lists.specs.Verdicts.{AreNumbered, front_order, is_like, verdict_order, verdict_key as key_of_results}
use Rattle.verdict_lists.proofs.KeptLemmas.{one_named}
use Rattle.verdict_lists.proofs.ListLemmas.{In, contains_from, every_from, every_at, not_equal}
use Rattle.verdict_lists.proofs.ListingLemmas.{listed_order_total}
use Rattle.verdict_lists.proofs.OrderLemmas.{then_front, then_less}
use Rattle.verdict_lists.proofs.EntryLemmas.{less_from_lt}
use Rattle.verdict_lists.proofs.NumberLemmas.{like_last}
use Rattle.verdict_pages.specs.Keys.{ResultPlace, VerdictPlace, by_result, by_verdict, result_place, verdict_place}
use Rattle.verdict_pages.specs.Laws.{ResultsRise, VerdictKeysRise}

pub by_verdict_total : IsTotalOrder by_verdict
by_verdict_total =
    then_total (on_total (λ (k : VerdictPlace). k.status) nat_cmp_total)
    (then_total (on_total (λ (k : VerdictPlace). k.test) nat_list_cmp_total)
    (then_total (on_total (λ (k : VerdictPlace). k.label) nat_list_cmp_total) (on_total (λ (k : VerdictPlace). k.ordinal) nat_cmp_total)))

then_assoc : (a b c : Ordering) → ordering_then a (ordering_then b c) ≡ ordering_then (ordering_then a b) c
then_assoc Less b c = refl
then_assoc Equal b c = refl
then_assoc Greater b c = refl

-- the ordinal comes last
key_is_front : (world : World) (a b : Verdict) → by_verdict (verdict_place world a) (verdict_place world b) ≡ ordering_then (front_order world a b) (nat_cmp a.ordinal b.ordinal)
key_is_front world a b =
    let s = nat_cmp (status_number a.status) (status_number b.status) in
    let t = slice_cmp nat_cmp (key_of_results world a).test (key_of_results world b).test in
    let l = slice_cmp nat_cmp a.label b.label in
    ap (ordering_then s) (then_assoc t l (nat_cmp a.ordinal b.ordinal)) ∙ then_assoc s (ordering_then t l) (nat_cmp a.ordinal b.ordinal)

-- as many as stand before are counted
later_ordinal : (world : World) (before xs : List Verdict) (y : Verdict) → In y xs → AreNumbered world before xs → count_by (is_like world y) before ≤ y.ordinal
later_ordinal world before [] y i h = absurd i
later_ordinal world before (x ∷ xs) y (inl e) h =
    let own : x.ordinal ≡ count_by (is_like world x) before = h.0 in
    subst (λ (z : Verdict). count_by (is_like world z) before ≤ z.ordinal) e (omega (arith, own))
later_ordinal world before (x ∷ xs) y (inr i) h =
    let more = sum_by-append (λ (v : Verdict). cond (is_like world y v) 1 0) before (x ∷ []) in
    let rest = later_ordinal world (before ++ x ∷ []) xs y i h.1 in
    omega (arith, more, rest)

keys_rise : (world : World) (before xs : List Verdict) → IsRising (verdict_order world) xs → AreNumbered world before xs
    → IsRising (λ a b. by_verdict (verdict_place world a) (verdict_place world b)) xs
keys_rise world before [] rise numbered = tt
keys_rise world before (x ∷ xs) rise numbered = (
  every_from (λ y. by_verdict (verdict_place world x) (verdict_place world y) ≡ Less) xs (λ y i.
      let step = then_less (front_order world x y) (pairs_order (key_of_results world x).pairs (key_of_results world y).pairs)
      (every_at (λ z. verdict_order world x z ≡ Less) xs rise.0 y i) in
      elim step [
        | inl less ↦ key_is_front world x y ∙ then_front (front_order world x y) (nat_cmp x.ordinal y.ordinal) less
        | inr same ↦
            let own : x.ordinal ≡ count_by (is_like world x) before = numbered.0 in
            let count : count_by (is_like world y) (before ++ x ∷ []) ≡ count_by (is_like world x) before + 1 = like_last world before x y (ap is_eq same) in
            let later = later_ordinal world (before ++ x ∷ []) xs y i numbered.1 in
            let lt : x.ordinal < y.ordinal = omega (arith, own, count, later) in
            key_is_front world x y ∙ ap (λ o. ordering_then o (nat_cmp x.ordinal y.ordinal)) same ∙ less_from_lt x.ordinal y.ordinal lt
      ]),
  keys_rise world (before ++ x ∷ []) xs rise.1 numbered.1,
)

pub verdict_keys_rise_is : VerdictKeysRise
verdict_keys_rise_is world roots list h = keys_rise world [] list h.rise h.numbered

pub by_result_total : IsTotalOrder by_result
by_result_total =
    then_total (on_total (λ (k : ResultPlace). k.invocation) nat_list_cmp_total)
    (then_total (on_total (λ (k : ResultPlace). k.test) nat_list_cmp_total) (on_total (λ (k : ResultPlace). k.result) nat_list_cmp_total))

named_apart : (world : World) (roots : List ℕ) → IsKept world → AreRoots world roots → (p q : ℕ) → IsReachedResult world roots p
    → IsReachedResult world roots q → listed_order world p q ≡ Less → by_result (result_place world p) (result_place world q) ≡ Less
named_apart world roots kept are p q r s e =
    elim (then_less (names_order (result_key_at world p) (result_key_at world q)) (nat_cmp p q) e) [
      | inl less ↦ less
      | inr equal ↦
          let same : p ≡ q = one_named world roots kept are p q r s equal in
          let tied : listed_order world p q ≡ Equal = subst (λ n. listed_order world p n ≡ Equal) same (tied_itself (listed_order_total world) p) in
          absurd (not_equal (listed_order world p q) e tied)
    ]

results_rise : (world : World) (roots : List ℕ) → IsKept world → AreRoots world roots → (list : List ℕ)
    → ((p : ℕ) → In p list → IsReachedResult world roots p) → IsRising (listed_order world) list
    → IsRising (λ p q. by_result (result_place world p) (result_place world q)) list
results_rise world roots kept are [] reached rise = tt
results_rise world roots kept are (p ∷ list) reached rise = (
  every_from (λ q. by_result (result_place world p) (result_place world q) ≡ Less) list (λ q i.
      named_apart world roots kept are p q (reached p (inl refl)) (reached q (inr i)) (every_at (λ n. listed_order world p n ≡ Less) list rise.0 q i)),
  results_rise world roots kept are list (λ q i. reached q (inr i)) rise.1,
)

pub results_rise_is : ResultsRise
results_rise_is world roots list kept are h =
    results_rise world roots kept are list (λ p i. (h.all p).0 (contains_from list p i)) h.rise
