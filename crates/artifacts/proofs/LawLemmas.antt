-- Tables after any number of batches.
use Rattle.std.proofs.Common.{◌≡◌, ℕ, zero, suc, List, [], ◌∷◌, ◌++◌, Some, None}
use Rattle.std.specs.List.{slice_get}
use Rattle.artifacts.specs.declared.artifact.Artifact.{Artifact}
use Rattle.artifacts.specs.Laws.{RowsStay, StaysTable}
use Rattle.artifacts.proofs.TableLemmas.{table_with}

pub stays_table : StaysTable
stays_table rows [] table can = table
stays_table rows (batch ∷ batches) table can =
    stays_table (rows ++ batch.rows) batches (table_with rows batch.rows batch.holder can.0 can.1 can.2 table) can.3

row_stays : (rows more : List Artifact) (at : ℕ) (row : Artifact) → slice_get rows at ≡ Some row → slice_get (rows ++ more) at ≡ Some row
row_stays [] more at row e = let no : None ≡ Some row = e in cc
row_stays (x ∷ rows) more zero row e = e
row_stays (x ∷ rows) more (suc at) row e = row_stays rows more at row e

pub rows_stay : RowsStay
rows_stay rows [] at row e = e
rows_stay rows (batch ∷ batches) at row e = rows_stay (rows ++ batch.rows) batches at row (row_stays rows batch.rows at row e)
