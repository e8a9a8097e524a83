-- Places in the order of their keys.
use Rattle.std.proofs.Common.{◌≡◌, ◌<◌, ◌≤◌, ◌+◌, ℕ, List, [], length, get_or, Contains, Some, Less, Equal, Greater, refl, sym, ap, ◌∙◌, subst, inl, inr, arith}
use Rattle.std.specs.Cmp.{IsTotalOrder}
use Rattle.std.specs.Cmp.Lexicographic.{slice_cmp, nat_list_cmp_total}
use Rattle.std.specs.List.{slice_get, insert}
use Rattle.std.specs.List.Sorted.{IsPartitionPoint}
use Rattle.std.specs.Ordering.{nat_cmp, ordering_then}
use Rattle.std.proofs.lemmas.Bool.{cases_lt}
use Rattle.std.proofs.lemmas.Cmp.{then_total, on_total, nat_cmp_total, tied_itself}
use Rattle.std.proofs.lemmas.List.Edits.{length-insert}
use Rattle.std.proofs.lemmas.Option.{get_or_from_slice_get, slice_get-get_or}
use Rattle.test_results.specs.Results.{Key}
use Rattle.test_results.specs.Orders.{IsFrontIndex, key_order, key_at, no_key, order_at, places_order}
use Rattle.lists.proofs.OrderLemmas.{nat_equal, none_equal, one_more_insert, rising_insert, same_text, then_equal}

pub key_order_total : IsTotalOrder key_order
key_order_total =
    then_total (then_total (on_total (λ (k : Key). k.holder) nat_cmp_total) (on_total (λ (k : Key). k.id) nat_list_cmp_total))
    (on_total (λ (k : Key). k.test) nat_list_cmp_total)

places_order_total : (keys : List Key) → IsTotalOrder (places_order keys)
places_order_total keys = on_total (λ (p : ℕ). key_at keys p) key_order_total

key_same : (a b : Key) → a.holder ≡ b.holder → a.test ≡ b.test → a.id ≡ b.id → a ≡ b
key_same a b e f g =
    let h : ℕ → Key = λ x. record { holder = x; test = a.test; id = a.id } in
    let t : List ℕ → Key = λ x. record { holder = b.holder; test = x; id = a.id } in
    let i : List ℕ → Key = λ x. record { holder = b.holder; test = b.test; id = x } in
    ap h e ∙ ap t f ∙ ap i g

pub same_key : (a b : Key) → key_order a b ≡ Equal → a ≡ b
same_key a b e =
    let parts = then_equal (ordering_then (nat_cmp a.holder b.holder) (slice_cmp nat_cmp a.id b.id)) (slice_cmp nat_cmp a.test b.test) e in
    let firsts = then_equal (nat_cmp a.holder b.holder) (slice_cmp nat_cmp a.id b.id) parts.0 in
    let holders : a.holder ≡ b.holder = nat_equal a.holder b.holder firsts.0 in
    let tests : a.test ≡ b.test = same_text a.test b.test parts.1 in
    let ids : a.id ≡ b.id = same_text a.id b.id firsts.1 in
    key_same a b holders tests ids

equal_key : (a b : Key) → a ≡ b → key_order a b ≡ Equal
equal_key a b e = subst (λ k. key_order k b ≡ Equal) (sym e) (tied_itself key_order_total b)

-- The index of the first rows of a batch.

pub front_none : (keys : List Key) → IsFrontIndex keys 0 []
front_none keys = record {
  rising = tt;
  all = λ place. (λ held. absurd (omega (arith, held.1)), λ lt. absurd (omega arith));
  length = refl;
}

pub front_added : (keys : List Key) (count : ℕ) (places : List ℕ) (i : ℕ) → IsFrontIndex keys count places → i ≤ length places
    → IsPartitionPoint (λ y. order_at keys (key_at keys count) y ≡ Less) (λ y. order_at keys (key_at keys count) y ≡ Greater) places i
    → IsFrontIndex keys (count + 1) (insert places i count)
front_added keys count places i index within parts = record {
  rising = rising_insert (places_order_total keys) places i count index.rising within parts;
  all = λ p. (
    λ held. elim ((one_more_insert places i count p).0 held) [
      | inl old ↦ let lt = (index.all p).0 old in omega (arith, lt)
      | inr e ↦ omega (arith, e)
    ],
    λ lt. (one_more_insert places i count p).1 (elim (cases_lt p count) [
      | inl old ↦ inl ((index.all p).1 old)
      | inr ge ↦ inr (omega (arith, lt, ge))
    ]),
  );
  length = length-insert places i count within ∙ ap (λ n. n + 1) index.length;
}

-- an earlier place with the key of the next one
pub front_found : (keys : List Key) (count : ℕ) (places : List ℕ) (key : Key) (i first : ℕ) → IsFrontIndex keys count places → count < length keys
    → i < length places → ((d : ℕ) → order_at keys key (get_or places i d) ≡ Equal) → first ≡ get_or places i first
    → (first < count) × (slice_get keys first ≡ Some key)
front_found keys count places key i first index few within equal is =
    let held : Contains places first = (i, within, sym is) in
    let below = (index.all first).0 held in
    let there : first < length keys = omega (arith, below, few) in (
      below,
      slice_get-get_or keys first no_key there
          ∙ ap Some (same_key (key_at keys first) key (subst (λ p. order_at keys key p ≡ Equal) (sym is) (equal first))),
    )

-- none of the places so far has the key of the next one
pub front_free : (keys : List Key) (count : ℕ) (places : List ℕ) (key : Key) (i : ℕ) → IsFrontIndex keys count places → i ≤ length places
    → IsPartitionPoint (λ y. order_at keys key y ≡ Less) (λ y. order_at keys key y ≡ Greater) places i
    → (p : ℕ) → p < count → slice_get keys p ≡ Some key → ⊥
front_free keys count places key i index within parts p below e =
    none_equal (order_at keys key) places i within parts p ((index.all p).1 below)
    (equal_key (key_at keys p) key (get_or_from_slice_get keys p key no_key e))
