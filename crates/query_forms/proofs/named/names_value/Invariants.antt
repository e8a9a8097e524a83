use Rattle.std.proofs.Common.{◌≡◌, map, take}
use Rattle.serde_json.specs.View.{view}
use Rattle.invocation_forms.specs.Named.{name_data}
use Rattle.query_forms.proofs.named.names_value.Given as goal

abbrev pub invariant-loop-id : goal.invariant-loop-id
invariant-loop-id l = map view l.list.items ≡ map name_data (take l.id-index l.ids)
