use Rattle.std.proofs.Common.{◌≡◌, map, take}
use Rattle.serde_json.specs.View.{view}
use Rattle.artifact_forms.specs.Batches.{element_data}
use Rattle.artifact_forms.proofs.written.list_value.Given as goal

abbrev pub invariant-loop-row : goal.invariant-loop-row
invariant-loop-row l = map view l.list.items ≡ map element_data (take l.row-index l.rows)
