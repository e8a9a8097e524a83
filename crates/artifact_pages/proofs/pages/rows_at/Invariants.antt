use Rattle.std.proofs.Common.{◌≡◌, Some, map, take}
use Rattle.std.specs.Prelude.{slice_get}
use Rattle.artifact_pages.proofs.pages.rows_at.Given as goal

abbrev pub invariant-loop-i : goal.invariant-loop-i
invariant-loop-i l = map (λ row. Some row.now) l.rows.items ≡ map (slice_get l.table.rows) (take l.i l.places)
