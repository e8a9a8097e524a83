-- Places in the order of their keys.
use Rattle.std.proofs.Common.{◌≡◌, ◌≢◌, ◌<◌, ◌≤◌, ◌+◌, ℕ, List, [], ◌∷◌, ◌++◌, length, get_or, Contains, Some, Less, Equal, Greater, refl, sym, ap, ◌∙◌, subst, inl, inr, arith}
use Rattle.std.specs.Cmp.{IsTotalOrder}
use Rattle.std.specs.Cmp.Lexicographic.{slice_cmp, nat_list_cmp_total}
use Rattle.std.specs.List.{slice_get, insert}
use Rattle.std.specs.List.Sorted.{IsPartitionPoint}
use Rattle.std.specs.Ordering.{nat_cmp, ordering_then}
use Rattle.std.proofs.lemmas.Bool.{cases_lt}
use Rattle.std.proofs.lemmas.Cmp.{then_total, on_total, nat_cmp_total, tied_itself}
use Rattle.std.proofs.lemmas.List.{get_or_append_left, get_or_push, get_or_default, length_push}
use Rattle.std.proofs.lemmas.List.Edits.{length-insert}
use Rattle.std.proofs.lemmas.List.Elements.{Contains-get_or}
use Rattle.std.proofs.lemmas.Option.{get_or_from_slice_get, slice_get-get_or}
use Rattle.artifacts.specs.Artifacts.{Key}
use Rattle.names_realms.specs.declared.parents.Parent.{Parent}
use Rattle.names_realms.specs.declared.parents.Parent.TheVariants.{Invocation, Result as ResultParent}
use Rattle.names_realms.specs.declared.result_names.ResultName.{ResultName}
use Rattle.lists.specs.Orders.{IsRising}
use Rattle.artifacts.specs.Orders.{IsKeyIndex, IsFrontIndex, invocation_of, key_order, key_at, no_key, order_at, parent_order, places_order, rank_of, result_of, test_of}
use Rattle.lists.proofs.OrderLemmas.{nat_equal, none_equal, one_more_insert, rising_agree, rising_insert, same_text, then_equal}

pub parent_order_total : IsTotalOrder parent_order
parent_order_total =
    then_total (then_total (then_total (on_total rank_of nat_cmp_total) (on_total invocation_of nat_list_cmp_total))
    (on_total test_of nat_list_cmp_total)) (on_total result_of nat_list_cmp_total)

pub key_order_total : IsTotalOrder key_order
key_order_total =
    then_total (then_total (on_total (λ (k : Key). k.holder) nat_cmp_total) (on_total (λ (k : Key). k.name.parent) parent_order_total))
    (on_total (λ (k : Key). k.name.artifact) nat_list_cmp_total)

places_order_total : (keys : List Key) → IsTotalOrder (places_order keys)
places_order_total keys = on_total (λ (p : ℕ). key_at keys p) key_order_total

name_same : (a b : ResultName) → a.invocation ≡ b.invocation → a.test ≡ b.test → a.result ≡ b.result → a ≡ b
name_same a b e f g =
    let i : List ℕ → ResultName = λ x. record { invocation = x; test = a.test; result = a.result } in
    let t : List ℕ → ResultName = λ x. record { invocation = b.invocation; test = x; result = a.result } in
    let r : List ℕ → ResultName = λ x. record { invocation = b.invocation; test = b.test; result = x } in
    ap i e ∙ ap t f ∙ ap r g

parent_same : (a b : Parent) → rank_of a ≡ rank_of b → invocation_of a ≡ invocation_of b → test_of a ≡ test_of b → result_of a ≡ result_of b → a ≡ b
parent_same (Invocation x) (Invocation y) r i t s = ap (λ id. Invocation id) i
parent_same (Invocation x) (ResultParent y) r i t s = absurd (omega (arith, r))
parent_same (ResultParent x) (Invocation y) r i t s = absurd (omega (arith, r))
parent_same (ResultParent x) (ResultParent y) r i t s = ap (λ name. ResultParent name) (name_same x y i t s)

pub same_parent : (a b : Parent) → parent_order a b ≡ Equal → a ≡ b
same_parent a b e =
    let ranks = nat_cmp (rank_of a) (rank_of b) in
    let invocations = slice_cmp nat_cmp (invocation_of a) (invocation_of b) in
    let tests = slice_cmp nat_cmp (test_of a) (test_of b) in
    let results = slice_cmp nat_cmp (result_of a) (result_of b) in
    let third = then_equal (ordering_then (ordering_then ranks invocations) tests) results e in
    let second = then_equal (ordering_then ranks invocations) tests third.0 in
    let first = then_equal ranks invocations second.0 in
    parent_same a b (nat_equal (rank_of a) (rank_of b) first.0) (same_text (invocation_of a) (invocation_of b) first.1)
    (same_text (test_of a) (test_of b) second.1) (same_text (result_of a) (result_of b) third.1)

pub key_same : (a b : Key) → a.holder ≡ b.holder → a.name.parent ≡ b.name.parent → a.name.artifact ≡ b.name.artifact → a ≡ b
key_same a b e f g =
    let h : ℕ → Key = λ x. record { holder = x; name = a.name } in
    let p : Parent → Key = λ x. record { holder = b.holder; name = record { parent = x; artifact = a.name.artifact } } in
    let i : List ℕ → Key = λ x. record { holder = b.holder; name = record { parent = b.name.parent; artifact = x } } in
    ap h e ∙ ap p f ∙ ap i g

pub same_key : (a b : Key) → key_order a b ≡ Equal → a ≡ b
same_key a b e =
    let holders = nat_cmp a.holder b.holder in
    let parents = parent_order a.name.parent b.name.parent in
    let ids = slice_cmp nat_cmp a.name.artifact b.name.artifact in
    let parts = then_equal (ordering_then holders parents) ids e in
    let firsts = then_equal holders parents parts.0 in
    key_same a b (nat_equal a.holder b.holder firsts.0) (same_parent a.name.parent b.name.parent firsts.1)
    (same_text a.name.artifact b.name.artifact parts.1)

equal_key : (a b : Key) → a ≡ b → key_order a b ≡ Equal
equal_key a b e = subst (λ k. key_order k b ≡ Equal) (sym e) (tied_itself key_order_total b)

-- the key at a place of a list with one more
old_key : (keys : List Key) (key : Key) (p : ℕ) → p < length keys → key_at (keys ++ key ∷ []) p ≡ key_at keys p
old_key keys key p within = get_or_append_left keys (key ∷ []) no_key p within

new_key : (keys : List Key) (key : Key) → key_at (keys ++ key ∷ []) (length keys) ≡ key
new_key keys key = get_or_push keys key no_key (length keys) refl

order_with_new : (keys : List Key) (key : Key) (p : ℕ) → p < length keys → places_order (keys ++ key ∷ []) p (length keys) ≡ order_at keys key p
order_with_new keys key p within =
    ap (λ k. key_order k (key_at (keys ++ key ∷ []) (length keys))) (old_key keys key p within)
    ∙ ap (λ k. key_order (key_at keys p) k) (new_key keys key)

rising_kept : (keys : List Key) (key : Key) (places : List ℕ) → ((p : ℕ) → Contains places p → p < length keys)
    → IsRising (places_order keys) places → IsRising (places_order (keys ++ key ∷ [])) places
rising_kept keys key places below h =
    let new = keys ++ key ∷ [] in
    rising_agree (places_order keys) (places_order new) places (λ a b p q e.
    ap (λ k. key_order k (key_at new b)) (old_key keys key a (below a p)) ∙ ap (λ k. key_order (key_at keys a) k) (old_key keys key b (below b q)) ∙ e) h

-- A holder's index.

pub found_at : (keys : List Key) (holder : ℕ) (places : List ℕ) (key : Key) (i place : ℕ) → IsKeyIndex keys holder places → i < length places
    → ((d : ℕ) → order_at keys key (get_or places i d) ≡ Equal) → place ≡ get_or places i place → slice_get keys place ≡ Some key
found_at keys holder places key i place index within equal is =
    let held : Contains places place = (i, within, sym is) in
    let below = ((index.all place).0 held).0 in
    slice_get-get_or keys place no_key below
    ∙ ap Some (same_key (key_at keys place) key (subst (λ p. order_at keys key p ≡ Equal) (sym is) (equal place)))

pub not_found : (keys : List Key) (holder : ℕ) (places : List ℕ) (key : Key) (i : ℕ) → IsKeyIndex keys holder places → key.holder ≡ holder
    → i ≤ length places → IsPartitionPoint (λ y. order_at keys key y ≡ Less) (λ y. order_at keys key y ≡ Greater) places i → ¬ Contains keys key
not_found keys holder places key i index own within parts held =
    let is : key_at keys held.0 ≡ key = get_or_default keys held.0 no_key key held.1 ∙ held.2 in
    none_equal (order_at keys key) places i within parts held.0 ((index.all held.0).1 (held.1, ap (λ (k : Key). k.holder) is ∙ own))
    (equal_key (key_at keys held.0) key is)

pub key_none : (holder : ℕ) → IsKeyIndex [] holder []
key_none holder = record {
  rising = tt;
  all = λ place. (λ held. absurd (omega (arith, held.1)), λ both. absurd (omega (arith, both.0)));
}

-- a key more, of this holder
pub key_added : (keys : List Key) (holder : ℕ) (places : List ℕ) (key : Key) (i : ℕ) → IsKeyIndex keys holder places → key.holder ≡ holder
    → i ≤ length places → IsPartitionPoint (λ y. order_at keys key y ≡ Less) (λ y. order_at keys key y ≡ Greater) places i
    → IsKeyIndex (keys ++ key ∷ []) holder (insert places i (length keys))
key_added keys holder places key i index own within parts =
    let new = keys ++ key ∷ [] in
    let n = length keys in
    let below : (p : ℕ) → Contains places p → p < length keys = λ p held. ((index.all p).0 held).0 in
    let at : (k d : ℕ) → k < length places → get_or places k d < length keys = λ k d lt. below (get_or places k d) (Contains-get_or places k d lt) in
    record {
      rising = rising_insert (places_order_total new) places i n (rising_kept keys key places below index.rising) within (
        λ k d low high. order_with_new keys key (get_or places k d) (at k d (omega arith)) ∙ parts.0 k d low high,
        λ k d low high. order_with_new keys key (get_or places k d) (at k d high) ∙ parts.1 k d low high,
      );
      all = λ p. (
        λ held. elim ((one_more_insert places i n p).0 held) [
          | inl old ↦ let both = (index.all p).0 old in
              (omega (arith, length_push keys key, both.0), ap (λ (k : Key). k.holder) (old_key keys key p both.0) ∙ both.1)
          | inr e ↦ (omega (arith, length_push keys key), ap (λ (k : Key). k.holder) (ap (key_at new) e ∙ new_key keys key) ∙ own)
        ],
        λ both. (one_more_insert places i n p).1 (elim (cases_lt p n) [
          | inl old ↦ inl ((index.all p).1 (old, ap (λ (k : Key). k.holder) (sym (old_key keys key p old)) ∙ both.1))
          | inr ge ↦ inr (omega (arith, length_push keys key, both.0))
        ]),
      );
    }

-- a key more, of another holder
pub key_kept : (keys : List Key) (holder : ℕ) (places : List ℕ) (key : Key) → IsKeyIndex keys holder places → key.holder ≢ holder
    → IsKeyIndex (keys ++ key ∷ []) holder places
key_kept keys holder places key index other =
    let new = keys ++ key ∷ [] in
    let n = length keys in
    record {
      rising = rising_kept keys key places (λ p held. ((index.all p).0 held).0) index.rising;
      all = λ p. (
        λ held. let both = (index.all p).0 held in
            (omega (arith, length_push keys key, both.0), ap (λ (k : Key). k.holder) (old_key keys key p both.0) ∙ both.1),
        λ both. elim (cases_lt p n) [
          | inl old ↦ (index.all p).1 (old, ap (λ (k : Key). k.holder) (sym (old_key keys key p old)) ∙ both.1)
          | inr ge ↦ let e : p ≡ n = omega (arith, length_push keys key, both.0) in
              absurd (other (ap (λ (k : Key). k.holder) (sym (ap (key_at new) e ∙ new_key keys key)) ∙ both.1))
        ],
      );
    }

-- The index of the first rows of a batch.

pub front_none : (keys : List Key) → IsFrontIndex keys 0 []
front_none keys = record {
  rising = tt;
  all = λ place. (λ held. absurd (omega (arith, held.1)), λ lt. absurd (omega arith));
  length = refl;
}

pub front_added : (keys : List Key) (count : ℕ) (places : List ℕ) (i : ℕ) → IsFrontIndex keys count places → i ≤ length places
    → IsPartitionPoint (λ y. order_at keys (key_at keys count) y ≡ Less) (λ y. order_at keys (key_at keys count) y ≡ Greater) places i
    → IsFrontIndex keys (count + 1) (insert places i count)
front_added keys count places i index within parts = record {
  rising = rising_insert (places_order_total keys) places i count index.rising within parts;
  all = λ p. (
    λ held. elim ((one_more_insert places i count p).0 held) [
      | inl old ↦ let lt = (index.all p).0 old in omega (arith, lt)
      | inr e ↦ omega (arith, e)
    ],
    λ lt. (one_more_insert places i count p).1 (elim (cases_lt p count) [
      | inl old ↦ inl ((index.all p).1 old)
      | inr ge ↦ inr (omega (arith, lt, ge))
    ]),
  );
  length = length-insert places i count within ∙ ap (λ n. n + 1) index.length;
}

-- an earlier place with the key of the next one
pub front_found : (keys : List Key) (count : ℕ) (places : List ℕ) (key : Key) (i first : ℕ) → IsFrontIndex keys count places → count < length keys
    → i < length places → ((d : ℕ) → order_at keys key (get_or places i d) ≡ Equal) → first ≡ get_or places i first
    → (first < count) × (slice_get keys first ≡ Some key)
front_found keys count places key i first index few within equal is =
    let held : Contains places first = (i, within, sym is) in
    let below = (index.all first).0 held in
    let there : first < length keys = omega (arith, below, few) in (
      below,
      slice_get-get_or keys first no_key there
          ∙ ap Some (same_key (key_at keys first) key (subst (λ p. order_at keys key p ≡ Equal) (sym is) (equal first))),
    )

-- none of the places so far has the key of the next one
pub front_free : (keys : List Key) (count : ℕ) (places : List ℕ) (key : Key) (i : ℕ) → IsFrontIndex keys count places → i ≤ length places
    → IsPartitionPoint (λ y. order_at keys key y ≡ Less) (λ y. order_at keys key y ≡ Greater) places i
    → (p : ℕ) → p < count → slice_get keys p ≡ Some key → ⊥
front_free keys count places key i index within parts p below e =
    none_equal (order_at keys key) places i within parts p ((index.all p).1 below)
    (equal_key (key_at keys p) key (get_or_from_slice_get keys p key no_key e))
