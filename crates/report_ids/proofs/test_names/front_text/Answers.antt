use Rattle.std.proofs.Common.{sym, ◌∙◌}
use Rattle.report_ids.proofs.NameLemmas.{text_of-IsUtf8}
use Rattle.report_ids.proofs.test_names.front_text.Goals as goal

pub returns-in-Ok : goal.returns-in-Ok
returns-in-Ok c = c.in-Ok.ensures.cases.0 ∙ sym (text_of-IsUtf8 c.args.bytes.now c.in-Ok.ensures.cases.1)
