use Rattle.pair_kinds.proofs.NameParts.PartLemmas.{IsPart-part_fault}
use Rattle.text_kinds.proofs.TagTextLaws.{value_right}
use Rattle.pair_kinds.proofs.JsonFields.WriteLaws.{always}
use Rattle.pair_kinds.proofs.TagLaws.{tag_written}
use Rattle.pair_kinds.proofs.tags.TagWritten.write.Goals as goal

pub returns-clause-again : goal.returns-clause-again
returns-clause-again c =
    always _ c.tag_value.result (tag_written c.args.self.now.key c.args.self.now.value (IsPart-part_fault _ _ c.key.ensures.grammar) (value_right c.args.self.now.value c.value.ensures.grammar))
