-- Batches of results.
use Rattle.std.specs.Prelude.{◌≡◌, ℕ, ◌+◌, ◌<◌, ◌≤◌, List, length, map}
use Rattle.std.specs.List.{All}
use Rattle.test_results.specs.declared.result.TestResult.{TestResult}
use Rattle.test_results.specs.declared.faults.BatchFault.{BatchFault}
use Rattle.test_results.specs.declared.faults.BatchFault.TheVariants.{TooMany, Repeated, Taken, Full, Memory}
use Rattle.test_results.specs.Results.{Key, HasKey, IsPlaceOf, ResultsState, places_in, room_for}

abbrev pub with_holder : ℕ → TestResult → TestResult
with_holder holder row = record row { holder = holder }

-- The rows of a request as a holder's.
abbrev pub given : ℕ → List TestResult → List TestResult
given holder rows = map (with_holder holder) rows

-- Among so many rows of the batch no key stands twice.
abbrev pub AreOnce : List TestResult → ℕ → Type 0
AreOnce batch count =
    (key : Key) (i j : ℕ) → i < count → j < count → IsPlaceOf batch key i → IsPlaceOf batch key j
    → i ≡ j

-- The key of no one of so many rows of the batch stands in the table.
abbrev pub AreFree : List TestResult → List TestResult → ℕ → Type 0
AreFree rows batch count =
    (key : Key) (at : ℕ) → at < count → IsPlaceOf batch key at → ¬ HasKey rows key

-- The second row has the key of the first, an earlier one, and none before it that of another.
pub record IsRepeat (batch : List TestResult) (first second : ℕ) : Type 0 where
  pub earlier : first < second
  pub key : Key
  pub there : IsPlaceOf batch key first
  pub again : IsPlaceOf batch key second
  pub once : AreOnce batch second

-- The key of the row of the batch stands in the table, and that of none before it.
pub record IsTaken (rows batch : List TestResult) (at : ℕ) : Type 0 where
  pub key : Key
  pub there : IsPlaceOf batch key at
  pub held : HasKey rows key
  pub free : AreFree rows batch at

-- The rows can come into the table: they are few, no two have the same key, no row of the table has
-- that of one, and the holder has no more than 100,000 rows then.
pub record CanAdd (rows : List TestResult) (holder : ℕ) (batch : List TestResult) : Type 0 where
  pub size : length batch ≤ 500
  pub once : AreOnce batch (length batch)
  pub free : AreFree rows batch (length batch)
  pub few : length (places_in rows holder) + length batch ≤ 100_000

-- There are more than 500 rows; or two have the same key; or the table has the key of one; or the
-- holder would have more than 100,000 rows, with this many there; or the rows could come in, and
-- there is no memory. What is named first is what is found.
abbrev pub IsBatchFault : List TestResult → ℕ → List TestResult → BatchFault → Type 0
IsBatchFault rows holder batch (TooMany count) = (500 < length batch) × (count ≡ length batch)
IsBatchFault rows holder batch (Repeated first second) =
    (length batch ≤ 500) × IsRepeat batch first second
IsBatchFault rows holder batch (Taken at) =
    (length batch ≤ 500) × AreOnce batch (length batch) × IsTaken rows batch at
IsBatchFault rows holder batch (Full count) =
    (length batch ≤ 500) × AreOnce batch (length batch) × AreFree rows batch (length batch)
    × (100_000 < length (places_in rows holder) + length batch)
    × (count ≡ length (places_in rows holder))
IsBatchFault rows holder batch Memory = CanAdd rows holder batch

-- The batch fits the table: its rows are of one holder and can come in, and there is room for them.
pub record Fits (table : ResultsState) (batch : List TestResult) : Type 0 where
  pub holder : ℕ
  pub held : All (λ row. row.holder ≡ holder) batch
  pub can : CanAdd table.rows holder batch
  pub room : length batch ≤ room_for table holder
