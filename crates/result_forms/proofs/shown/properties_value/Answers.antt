use Rattle.std.proofs.Common.{sym, ◌∙◌}
use Rattle.result_forms.proofs.ShownLaws.{empty_shows_none}
use Rattle.result_forms.proofs.shown.properties_value.Goals as goal

pub returns-then-is_empty : goal.returns-then-is_empty
returns-then-is_empty c = empty_shows_none c.args.text.now (sym c.is_empty.ensures ∙ c.if-is_empty.true)
