use Rattle.std.proofs.Common.{sym, ◌∙◌}
use Rattle.page_tokens.proofs.laws.one_text_written.Goals as goal

pub returns : goal.returns
returns c query kind parts contents text other token second = token.spelling ∙ sym second.spelling
