-- The first rows of a batch, of which no two have the same key.
use Rattle.std.proofs.Common.{◌≡◌, ◌<◌, ◌≤◌, ◌+◌, ℕ, List, [], ◌∷◌, length, get_or, Some, Less, Equal, Greater, refl, sym, ap, ◌∙◌, subst, inl, inr, arith}
use Rattle.std.specs.List.{All, AllByRecursion, slice_get, insert}
use Rattle.std.proofs.lemmas.List.Elements.{All-from_recursion}
use Rattle.std.specs.List.Sorted.{IsPartitionPoint}
use Rattle.std.proofs.lemmas.Bool.{cases_lt}
use Rattle.std.proofs.lemmas.List.{get_or-map, length-map}
use Rattle.std.proofs.lemmas.Option.{slice_get-get_or}
use Rattle.artifacts.specs.declared.artifact.Artifact.{Artifact}
use Rattle.artifacts.specs.Artifacts.{key_of, keys_of}
use Rattle.artifacts.specs.declared.faults.ArtifactFault.{ArtifactFault}
use Rattle.artifacts.specs.declared.faults.ArtifactFault.TheVariants.{TooMany, Repeated, SizeWrong, HashWrong, Taken, Full, Memory}
use Rattle.artifacts.specs.Requests.{DigestedState}
use Rattle.artifacts.specs.Batches.{AreOnce, IsBatchFault, IsRepeat, IsRowFault, given}
use Rattle.artifacts.specs.Orders.{IsFrontIndex, key_at, no_key, order_at}
use Rattle.artifacts.proofs.KeyLemmas.{front_added, front_found, front_free}

-- the key of the row at a place
pub key_is : (rows : List Artifact) (at : ℕ) (row : Artifact) → at < length rows → row ≡ get_or rows at row → slice_get (keys_of rows) at ≡ Some (key_of row)
key_is rows at row within is =
    let count : at < length (keys_of rows) = omega (arith, length-map rows key_of) in
    slice_get-get_or (keys_of rows) at no_key count
    ∙ ap (λ k. Some k) (get_or-map key_of rows at row no_key within ∙ ap key_of (sym is))

pub key_at_is : (rows : List Artifact) (at : ℕ) (row : Artifact) → at < length rows → row ≡ get_or rows at row → key_at (keys_of rows) at ≡ key_of row
key_at_is rows at row within is = get_or-map key_of rows at row no_key within ∙ ap key_of (sym is)

-- the next row repeats an earlier one
pub repeated : (rows : List Artifact) (next : ℕ) (row : Artifact) (places : List ℕ) (i first : ℕ) → IsFrontIndex (keys_of rows) next places
    → AreOnce rows next → next < length rows → row ≡ get_or rows next row → i < length places
    → ((d : ℕ) → order_at (keys_of rows) (key_of row) (get_or places i d) ≡ Equal) → first ≡ get_or places i first → IsRepeat rows first next
repeated rows next row places i first index once within is low equal at =
    let count : next < length (keys_of rows) = omega (arith, length-map rows key_of) in
    let found = front_found (keys_of rows) next places (key_of row) i first index count low equal at in
    record {
      earlier = found.0;
      key = key_of row;
      there = found.1;
      again = key_is rows next row within is;
      once = once;
    }

-- the next row repeats none
pub once_more : (rows : List Artifact) (next : ℕ) (row : Artifact) (places : List ℕ) (i : ℕ) → IsFrontIndex (keys_of rows) next places
    → AreOnce rows next → next < length rows → row ≡ get_or rows next row → i ≤ length places
    → IsPartitionPoint (λ y. order_at (keys_of rows) (key_of row) y ≡ Less) (λ y. order_at (keys_of rows) (key_of row) y ≡ Greater) places i
    → AreOnce rows (next + 1)
once_more rows next row places i index once within is low parts key j k lj lk ej ek =
    let keys = keys_of rows in
    let here = key_is rows next row within is in
    let free = front_free keys next places (key_of row) i index low parts in
    elim (cases_lt j next) [
      | inl a ↦ elim (cases_lt k next) [
        | inl b ↦ once key j k a b ej ek
        | inr b ↦ let at : k ≡ next = omega (arith, b, lk) in
            absurd (free j a (ej ∙ sym ek ∙ ap (slice_get keys) at ∙ here))
      ]
      | inr a ↦ let first : j ≡ next = omega (arith, a, lj) in elim (cases_lt k next) [
        | inl b ↦ absurd (free k b (ek ∙ sym ej ∙ ap (slice_get keys) first ∙ here))
        | inr b ↦ omega (arith, first, b, lk)
      ]
    ]

pub front_more : (rows : List Artifact) (next : ℕ) (row : Artifact) (places : List ℕ) (i : ℕ) → IsFrontIndex (keys_of rows) next places
    → next < length rows → row ≡ get_or rows next row → i ≤ length places
    → IsPartitionPoint (λ y. order_at (keys_of rows) (key_of row) y ≡ Less) (λ y. order_at (keys_of rows) (key_of row) y ≡ Greater) places i
    → IsFrontIndex (keys_of rows) (next + 1) (insert places i next)
front_more rows next row places i index within is low parts =
    front_added (keys_of rows) next places i index low
    (subst (λ k. IsPartitionPoint (λ y. order_at (keys_of rows) k y ≡ Less) (λ y. order_at (keys_of rows) k y ≡ Greater) places i)
    (sym (key_at_is rows next row within is)) parts)

given_recursion : (holder : ℕ) (rows : List Artifact) → AllByRecursion (λ (r : Artifact). r.holder ≡ holder) (given holder rows)
given_recursion holder [] = tt
given_recursion holder (x ∷ rows) = (refl, given_recursion holder rows)

-- the rows of a request have the holder that they were given
pub given_held : (holder : ℕ) (rows : List Artifact) → All (λ (r : Artifact). r.holder ≡ holder) (given holder rows)
given_held holder rows = All-from_recursion (λ (r : Artifact). r.holder ≡ holder) (given holder rows) (given_recursion holder rows)

-- a fault of rows is one of a batch of few rows
pub row_fault : (rows : List Artifact) (holder : ℕ) (batch : DigestedState) (fault : ArtifactFault) → length batch.rows ≤ 500
    → IsRowFault rows batch fault → IsBatchFault rows holder batch fault
row_fault rows holder batch (Repeated first second) size h = (size, h)
row_fault rows holder batch (SizeWrong at said found) size h = (size, h)
row_fault rows holder batch (HashWrong at said found) size h = (size, h)
row_fault rows holder batch (Taken at) size h = (size, h)
row_fault rows holder batch (TooMany count) size h = absurd h
row_fault rows holder batch (Full count) size h = absurd h
row_fault rows holder batch Memory size h = absurd h
