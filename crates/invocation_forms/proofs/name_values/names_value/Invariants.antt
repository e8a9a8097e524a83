use Rattle.std.proofs.Common.{◌≡◌, false, map, take}
use Rattle.serde_json.specs.View.{view}
use Rattle.json_fields.specs.Kinds.{empty_text}
use Rattle.json_fields.specs.Writing.{AllWritten}
use Rattle.invocation_forms.specs.Named.{an_invocation_name, IsNameOf, name_data}
use Rattle.invocation_forms.proofs.name_values.names_value.Given as goal

abbrev pub invariant-loop-id : goal.invariant-loop-id
invariant-loop-id l = record {
  values : map view l.list.items ≡ map name_data (take l.id-index l.ids);
  again : AllWritten an_invocation_name IsNameOf empty_text (λ _. false) name_data (take l.id-index l.ids);
}
