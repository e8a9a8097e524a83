use Rattle.std.proofs.Common.{sym, ◌∙◌}
use Rattle.text_kinds.proofs.TagTextLaws.{value_good}
use Rattle.text_kinds.proofs.tag_texts.TagValueSpelled.parse_text.Goals as goal

pub owned_text-requires : goal.owned_text-requires
owned_text-requires c = (value_good c.args.text.now (sym c.fault_of_value.ensures ∙ c.in_default.is)).0

pub invariant_of-result : goal.invariant_of-result
invariant_of-result c = rw c.in_ok-text.ensures (value_good c.args.text.now (sym c.fault_of_value.ensures ∙ c.in_default.is))
