use Rattle.page_tokens.proofs.TokenLemmas.{only_tokens}
use Rattle.page_tokens.proofs.laws.only_tokens_are_read.Goals as goal

pub returns : goal.returns
returns c = only_tokens
