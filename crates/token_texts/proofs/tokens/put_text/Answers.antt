use Rattle.token_texts.proofs.TokenLaws.{also}
use Rattle.token_texts.proofs.tokens.put_text.Goals as goal

pub returns : goal.returns
returns c = also c.in_ok-put_key.ensures c.in_ok-put_string.ensures
