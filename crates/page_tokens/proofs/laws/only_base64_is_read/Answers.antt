use Rattle.page_tokens.proofs.TokenLemmas.{only_base64}
use Rattle.page_tokens.proofs.laws.only_base64_is_read.Goals as goal

pub returns : goal.returns
returns c = only_base64
