use Rattle.page_tokens.proofs.TokenLemmas.{one_told}
use Rattle.page_tokens.proofs.laws.one_key_told.Goals as goal

pub returns : goal.returns
returns c = one_told
