use Rattle.std.proofs.Common.{option_map, sym, ap, ◌∙◌}
use Rattle.serde_json.specs.View.{view}
use Rattle.result_texts.proofs.ValueLaws.{variant_plain}
use Rattle.result_texts.proofs.pairs.put_any.Goals as goal

pub put_value-requires : goal.put_value-requires
put_value-requires c = variant_plain c.args.pairs.now (view c.in-Some.value) (ap (option_map view) (sym c.in-Some.is) ∙ c.in_ok-value.ensures)
