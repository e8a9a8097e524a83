use Rattle.std.proofs.Common.{option_map, sym, ap, ◌∙◌}
use Rattle.serde_json.specs.View.{view}
use Rattle.result_texts.proofs.ValueLaws.{properties_plain}
use Rattle.result_texts.proofs.values.put_properties.Goals as goal

pub put_value-requires : goal.put_value-requires
put_value-requires c = properties_plain c.args.text.now (view c.in-Some.value) (ap (option_map view) (sym c.in-Some.is) ∙ c.in_ok-value.ensures)
