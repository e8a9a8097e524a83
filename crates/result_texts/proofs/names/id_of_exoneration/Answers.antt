use Rattle.std.proofs.Common.{sym, subst, ◌∙◌}
use Rattle.std.specs.Str.{IsUtf8}
use Rattle.result_forms.proofs.NameTextLaws.{label_utf8}
use Rattle.result_texts.proofs.names.id_of_exoneration.Goals as goal

pub unreachable-requires : goal.unreachable-requires
unreachable-requires c = c.in-Err.ensures.cases.0 (subst IsUtf8 (sym (c.as_slice.ensures ∙ c.label-label.ensures)) (label_utf8 c.args.row.now.variant))
