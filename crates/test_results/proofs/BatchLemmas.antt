-- The first rows of a batch, of which no two have the same key.
use Rattle.std.proofs.Common.{◌≡◌, ◌<◌, ◌≤◌, ◌+◌, ℕ, List, [], ◌∷◌, length, get_or, Some, Less, Equal, Greater, refl, sym, ap, ◌∙◌, subst, inl, inr, arith}
use Rattle.std.specs.List.{All, AllByRecursion, slice_get, insert}
use Rattle.std.proofs.lemmas.List.Elements.{All-from_recursion}
use Rattle.std.specs.List.Sorted.{IsPartitionPoint}
use Rattle.std.proofs.lemmas.Bool.{cases_lt}
use Rattle.std.proofs.lemmas.List.{get_or-map, length-map}
use Rattle.std.proofs.lemmas.Option.{slice_get-get_or}
use Rattle.test_results.specs.declared.result.TestResult.{TestResult}
use Rattle.test_results.specs.Results.{key_of, keys_of}
use Rattle.test_results.specs.Batches.{AreOnce, IsRepeat, given}
use Rattle.test_results.specs.Orders.{IsFrontIndex, key_at, no_key, order_at}
use Rattle.test_results.proofs.KeyLemmas.{front_added, front_found, front_free}

-- the key of the row at a place
pub key_is : (rows : List TestResult) (at : ℕ) (row : TestResult) → at < length rows → row ≡ get_or rows at row → slice_get (keys_of rows) at ≡ Some (key_of row)
key_is rows at row within is =
    let count : at < length (keys_of rows) = omega (arith, length-map rows key_of) in
    slice_get-get_or (keys_of rows) at no_key count
    ∙ ap (λ k. Some k) (get_or-map key_of rows at row no_key within ∙ ap key_of (sym is))

pub key_at_is : (rows : List TestResult) (at : ℕ) (row : TestResult) → at < length rows → row ≡ get_or rows at row → key_at (keys_of rows) at ≡ key_of row
key_at_is rows at row within is = get_or-map key_of rows at row no_key within ∙ ap key_of (sym is)

-- the next row repeats an earlier one
pub repeated : (rows : List TestResult) (next : ℕ) (row : TestResult) (places : List ℕ) (i first : ℕ) → IsFrontIndex (keys_of rows) next places
    → AreOnce rows next → next < length rows → row ≡ get_or rows next row → i < length places
    → ((d : ℕ) → order_at (keys_of rows) (key_of row) (get_or places i d) ≡ Equal) → first ≡ get_or places i first → IsRepeat rows first next
repeated rows next row places i first index once within is low equal at =
    let count : next < length (keys_of rows) = omega (arith, length-map rows key_of) in
    let found = front_found (keys_of rows) next places (key_of row) i first index count low equal at in
    record {
      earlier = found.0;
      key = key_of row;
      there = found.1;
      again = key_is rows next row within is;
      once = once;
    }

-- the next row repeats none
pub once_more : (rows : List TestResult) (next : ℕ) (row : TestResult) (places : List ℕ) (i : ℕ) → IsFrontIndex (keys_of rows) next places
    → AreOnce rows next → next < length rows → row ≡ get_or rows next row → i ≤ length places
    → IsPartitionPoint (λ y. order_at (keys_of rows) (key_of row) y ≡ Less) (λ y. order_at (keys_of rows) (key_of row) y ≡ Greater) places i
    → AreOnce rows (next + 1)
once_more rows next row places i index once within is low parts key j k lj lk ej ek =
    let keys = keys_of rows in
    let here = key_is rows next row within is in
    let free = front_free keys next places (key_of row) i index low parts in
    elim (cases_lt j next) [
      | inl a ↦ elim (cases_lt k next) [
        | inl b ↦ once key j k a b ej ek
        | inr b ↦ let at : k ≡ next = omega (arith, b, lk) in
            absurd (free j a (ej ∙ sym ek ∙ ap (slice_get keys) at ∙ here))
      ]
      | inr a ↦ let first : j ≡ next = omega (arith, a, lj) in elim (cases_lt k next) [
        | inl b ↦ absurd (free k b (ek ∙ sym ej ∙ ap (slice_get keys) first ∙ here))
        | inr b ↦ omega (arith, first, b, lk)
      ]
    ]

pub front_more : (rows : List TestResult) (next : ℕ) (row : TestResult) (places : List ℕ) (i : ℕ) → IsFrontIndex (keys_of rows) next places
    → next < length rows → row ≡ get_or rows next row → i ≤ length places
    → IsPartitionPoint (λ y. order_at (keys_of rows) (key_of row) y ≡ Less) (λ y. order_at (keys_of rows) (key_of row) y ≡ Greater) places i
    → IsFrontIndex (keys_of rows) (next + 1) (insert places i next)
front_more rows next row places i index within is low parts =
    front_added (keys_of rows) next places i index low
    (subst (λ k. IsPartitionPoint (λ y. order_at (keys_of rows) k y ≡ Less) (λ y. order_at (keys_of rows) k y ≡ Greater) places i)
    (sym (key_at_is rows next row within is)) parts)

given_recursion : (holder : ℕ) (rows : List TestResult) → AllByRecursion (λ (r : TestResult). r.holder ≡ holder) (given holder rows)
given_recursion holder [] = tt
given_recursion holder (x ∷ rows) = (refl, given_recursion holder rows)

-- the rows of a request have the holder that they were given
pub given_held : (holder : ℕ) (rows : List TestResult) → All (λ (r : TestResult). r.holder ≡ holder) (given holder rows)
given_held holder rows = All-from_recursion (λ (r : TestResult). r.holder ≡ holder) (given holder rows) (given_recursion holder rows)
