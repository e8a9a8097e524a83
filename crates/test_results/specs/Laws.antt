-- Laws of tables that batches come into.
use Rattle.std.specs.Prelude.{◌≡◌, ◌≢◌, ◌⊎◌, ℕ, List, [], ◌∷◌, ◌++◌, Some, slice_get}
use Rattle.std.specs.List.{All}
use Rattle.test_results.specs.declared.result.TestResult.{TestResult}
use Rattle.test_results.specs.declared.exoneration.TestExoneration.{TestExoneration}
use Rattle.test_results.specs.declared.faults.BatchFault.{BatchFault}
use Rattle.test_results.specs.declared.faults.BatchFault.TheVariants.{Memory}
use Rattle.test_results.specs.Results.{IsTable}
use Rattle.test_results.specs.Batches.{CanAdd, IsBatchFault}
use Rattle.test_results.specs.Exonerations as exonerations

-- Rows that come in together, and their holder.
pub record Addition : Type 0 where
  pub holder : ℕ
  pub rows : List TestResult

-- The rows after these batches came in, one after the other.
abbrev pub after : List TestResult → List Addition → List TestResult
after rows [] = rows
after rows (batch ∷ batches) = after (rows ++ batch.rows) batches

-- Each batch can come in when those before it have.
abbrev pub CanAll : List TestResult → List Addition → Type 0
CanAll rows [] = Unit {0}
CanAll rows (batch ∷ batches) =
    All (λ row. row.holder ≡ batch.holder) batch.rows
    × CanAdd rows batch.holder batch.rows
    × CanAll (rows ++ batch.rows) batches

-- A table that batches can come into, any number of them, is one after them: in a holder no two
-- rows have the same ids, and there are at most 100,000.
abbrev pub StaysTable : Type 0
StaysTable =
    (rows : List TestResult) (batches : List Addition) → IsTable rows → CanAll rows batches
    → IsTable (after rows batches)

-- Rows stay at their places, whatever comes in.
abbrev pub RowsStay : Type 0
RowsStay =
    (rows : List TestResult) (batches : List Addition) (at : ℕ) (row : TestResult)
    → slice_get rows at ≡ Some row → slice_get (after rows batches) at ≡ Some row

-- One fault at most is said of a batch. Want of memory is said where it can come in: so where it
-- can, no other fault is said.
abbrev pub OneBatchFault : Type 0
OneBatchFault =
    ((rows : List TestResult) (holder : ℕ) (batch : List TestResult) (fault other : BatchFault)
    → IsBatchFault rows holder batch fault → IsBatchFault rows holder batch other
    → fault ≡ other)
    × ((rows : List TestExoneration) (holder count : ℕ) (fault other : BatchFault)
    → exonerations.IsBatchFault rows holder count fault
    → exonerations.IsBatchFault rows holder count other
    → fault ≡ other)

-- Each batch can come in, or some other fault is said of it.
abbrev pub FaultOrCanAdd : Type 0
FaultOrCanAdd =
    ((rows : List TestResult) (holder : ℕ) (batch : List TestResult)
    → CanAdd rows holder batch
    ⊎ ((fault : BatchFault) × (fault ≢ Memory) × IsBatchFault rows holder batch fault))
    × ((rows : List TestExoneration) (holder count : ℕ)
    → exonerations.CanAdd rows holder count
    ⊎ ((fault : BatchFault) × (fault ≢ Memory)
    × exonerations.IsBatchFault rows holder count fault))
