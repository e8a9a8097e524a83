-- Lists and batches of exonerations.
use Rattle.std.specs.Prelude.{◌≡◌, ℕ, suc, ◌+◌, ◌<◌, ◌≤◌, List, [], ◌∷◌, Some, length, map, take, slice_get, slice_index_or}
use Rattle.test_results.specs.declared.exoneration.TestExoneration.{TestExoneration}
use Rattle.test_results.specs.declared.faults.BatchFault.{BatchFault}
use Rattle.test_results.specs.declared.faults.BatchFault.TheVariants.{TooMany, Repeated, Taken, Full, Memory}
use Rattle.test_results.specs.Places.{places_of}

-- A table: its rows in order of arrival, and for how many more rows of each holder there is room.
pub record ExonerationsState : Type 0 where
  pub rows : List TestExoneration
  pub rooms : List ℕ

-- For how many more rows of this holder there is room.
abbrev pub room_for : ExonerationsState → ℕ → ℕ
room_for table holder = slice_index_or table.rooms holder 0

abbrev pub holders_of : List TestExoneration → List ℕ
holders_of rows = map (λ (row : TestExoneration). row.holder) rows

-- The places of the rows of a holder.
abbrev pub places_in : List TestExoneration → ℕ → List ℕ
places_in rows holder = places_of (holders_of rows) holder

-- The row's place is that among the rows of its holder, counted from 1, when these stand before it.
abbrev pub IsPlaced : List TestExoneration → TestExoneration → Type 0
IsPlaced before row = row.place ≡ length (places_in before row.holder) + 1

-- What is so of the rows of every table.
pub record IsTable (rows : List TestExoneration) : Type 0 where
  pub few : (holder : ℕ) → length (places_in rows holder) ≤ 100_000
  pub placed : (at : ℕ) (row : TestExoneration) → slice_get rows at ≡ Some row
      → IsPlaced (take at rows) row

-- The rows of a request as a holder's, of which so many stand before them.
abbrev pub given : ℕ → ℕ → List TestExoneration → List TestExoneration
given holder before [] = []
given holder before (row ∷ rows) =
    record row { holder = holder; place = suc before } ∷ given holder (suc before) rows

-- The rows can come into the table: they are few, and the holder has no more than 100,000 then.
pub record CanAdd (rows : List TestExoneration) (holder count : ℕ) : Type 0 where
  pub size : count ≤ 500
  pub few : length (places_in rows holder) + count ≤ 100_000

-- There are more than 500 rows; or the holder would have more than 100,000, with this many there;
-- or the rows could come in, and there is no memory.
abbrev pub IsBatchFault : List TestExoneration → ℕ → ℕ → BatchFault → Type 0
IsBatchFault rows holder count (TooMany found) = (500 < count) × (found ≡ count)
IsBatchFault rows holder count (Full found) =
    (count ≤ 500) × (100_000 < length (places_in rows holder) + count)
    × (found ≡ length (places_in rows holder))
IsBatchFault rows holder count Memory = CanAdd rows holder count
IsBatchFault rows holder count (Repeated first second) = ⊥
IsBatchFault rows holder count (Taken index) = ⊥

-- The batch fits the table: its rows are of one holder, are placed behind those that it has, can
-- come in, and there is room for them.
pub record Fits (table : ExonerationsState) (batch : List TestExoneration) : Type 0 where
  pub holder : ℕ
  pub asked : List TestExoneration
  pub placed : batch ≡ given holder (length (places_in table.rows holder)) asked
  pub can : CanAdd table.rows holder (length batch)
  pub room : length batch ≤ room_for table holder

-- rows with the places of each holder
pub record IsIndexed (rows : List TestExoneration) (arrived : List (List ℕ)) : Type 0 where
  pub table : IsTable rows
  pub places : (holder : ℕ) → slice_index_or arrived holder [] ≡ places_in rows holder
