use Rattle.std.proofs.Common.{sym, ◌∙◌}
use Rattle.token_texts.proofs.MemberLaws.{as_text-utf8, as_text-other}
use Rattle.token_texts.proofs.members.text_of.Goals as goal

pub returns-in-Ok : goal.returns-in-Ok
returns-in-Ok c = let is = c.in-Ok.ensures.cases in is.0 ∙ sym (as_text-utf8 c.args.bytes.now is.1)

pub returns-in-Err : goal.returns-in-Err
returns-in-Err c = sym (as_text-other c.args.bytes.now c.in-Err.ensures.cases.0)
