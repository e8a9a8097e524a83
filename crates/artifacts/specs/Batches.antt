-- Batches of artifacts.
use Rattle.std.specs.Prelude.{◌≡◌, ℕ, ◌+◌, ◌<◌, ◌≤◌, List, length, map}
use Rattle.std.specs.List.{All}
use Rattle.artifacts.specs.declared.artifact.Artifact.{Artifact}
use Rattle.artifacts.specs.declared.faults.ArtifactFault.{ArtifactFault}
use Rattle.artifacts.specs.declared.faults.ArtifactFault.TheVariants.{TooMany, Repeated, SizeWrong, HashWrong, Taken, Full, Memory}
use Rattle.artifacts.specs.Artifacts.{ArtifactsState, HasItsHash, HasKey, IsPlaceOf, Key, places_in, room_for}
use Rattle.artifacts.specs.Requests.{AreSizesRight, DigestedState, IsHashWrong, IsSaidRight, IsSizeWrong}

abbrev pub with_holder : ℕ → Artifact → Artifact
with_holder holder row = record row { holder = holder }

-- The rows of a request as a holder's.
abbrev pub given : ℕ → List Artifact → List Artifact
given holder rows = map (with_holder holder) rows

-- Among so many rows of the batch no key stands twice.
abbrev pub AreOnce : List Artifact → ℕ → Type 0
AreOnce batch count =
    (key : Key) (i j : ℕ) → i < count → j < count → IsPlaceOf batch key i → IsPlaceOf batch key j
    → i ≡ j

-- The key of no one of so many rows of the batch stands in the table.
abbrev pub AreFree : List Artifact → List Artifact → ℕ → Type 0
AreFree rows batch count =
    (key : Key) (at : ℕ) → at < count → IsPlaceOf batch key at → ¬ HasKey rows key

-- The second row has the key of the first, an earlier one, and none before it that of another.
pub record IsRepeat (batch : List Artifact) (first second : ℕ) : Type 0 where
  pub earlier : first < second
  pub key : Key
  pub there : IsPlaceOf batch key first
  pub again : IsPlaceOf batch key second
  pub once : AreOnce batch second

-- The key of the row of the batch stands in the table, and that of none before it.
pub record IsTaken (rows batch : List Artifact) (at : ℕ) : Type 0 where
  pub key : Key
  pub there : IsPlaceOf batch key at
  pub held : HasKey rows key
  pub free : AreFree rows batch at

-- The rows can come into the table: they are few, no two have the same key, no row of the table has
-- that of one, and the holder has no more than 100,000 rows then.
pub record CanAdd (rows : List Artifact) (holder : ℕ) (batch : List Artifact) : Type 0 where
  pub size : length batch ≤ 500
  pub once : AreOnce batch (length batch)
  pub free : AreFree rows batch (length batch)
  pub few : length (places_in rows holder) + length batch ≤ 100_000

-- The rows of a request as a holder's, and what is said of each.
abbrev pub of_holder : ℕ → DigestedState → DigestedState
of_holder holder asked = record { rows = given holder asked.rows; said = asked.said }

-- The rows of a request, as the holder's, can come in: nothing that is said of them is wrong, and
-- they can come into the table.
pub record CanCome (rows : List Artifact) (holder : ℕ) (batch : DigestedState) : Type 0 where
  pub said : IsSaidRight batch (length batch.rows)
  pub can : CanAdd rows holder batch.rows

-- Two rows have the same key; or a size that is said is wrong; or a hash that is said is; or the
-- table has the key of one. What is named first is what is found.
abbrev pub IsRowFault : List Artifact → DigestedState → ArtifactFault → Type 0
IsRowFault rows batch (Repeated first second) = IsRepeat batch.rows first second
IsRowFault rows batch (SizeWrong at said found) =
    AreOnce batch.rows (length batch.rows) × IsSizeWrong batch at said found
IsRowFault rows batch (HashWrong at said found) =
    AreOnce batch.rows (length batch.rows) × AreSizesRight batch (length batch.rows)
    × IsHashWrong batch at said found
IsRowFault rows batch (Taken at) =
    AreOnce batch.rows (length batch.rows) × IsSaidRight batch (length batch.rows)
    × IsTaken rows batch.rows at
IsRowFault rows batch (TooMany count) = ⊥
IsRowFault rows batch (Full count) = ⊥
IsRowFault rows batch Memory = ⊥

-- None of these faults is found.
pub record HaveNoFault (rows : List Artifact) (batch : DigestedState) : Type 0 where
  pub once : AreOnce batch.rows (length batch.rows)
  pub said : IsSaidRight batch (length batch.rows)
  pub free : AreFree rows batch.rows (length batch.rows)

-- There are more than 500 rows; or one of the faults of rows is found; or the holder would have
-- more than 100,000 rows, with this many there; or the rows could come in, and there is no memory.
-- What is named first is what is found.
abbrev pub IsBatchFault : List Artifact → ℕ → DigestedState → ArtifactFault → Type 0
IsBatchFault rows holder batch (TooMany count) =
    (500 < length batch.rows) × (count ≡ length batch.rows)
IsBatchFault rows holder batch (Repeated first second) =
    (length batch.rows ≤ 500) × IsRowFault rows batch (Repeated first second)
IsBatchFault rows holder batch (SizeWrong at said found) =
    (length batch.rows ≤ 500) × IsRowFault rows batch (SizeWrong at said found)
IsBatchFault rows holder batch (HashWrong at said found) =
    (length batch.rows ≤ 500) × IsRowFault rows batch (HashWrong at said found)
IsBatchFault rows holder batch (Taken at) =
    (length batch.rows ≤ 500) × IsRowFault rows batch (Taken at)
IsBatchFault rows holder batch (Full count) =
    (length batch.rows ≤ 500) × HaveNoFault rows batch
    × (100_000 < length (places_in rows holder) + length batch.rows)
    × (count ≡ length (places_in rows holder))
IsBatchFault rows holder batch Memory = CanCome rows holder batch

-- The batch fits the table: its rows are of one holder, have their hashes and can come in, and
-- there is room for them.
pub record Fits (table : ArtifactsState) (batch : List Artifact) : Type 0 where
  pub holder : ℕ
  pub held : All (λ row. row.holder ≡ holder) batch
  pub hashed : All HasItsHash batch
  pub can : CanAdd table.rows holder batch
  pub room : length batch ≤ room_for table holder
