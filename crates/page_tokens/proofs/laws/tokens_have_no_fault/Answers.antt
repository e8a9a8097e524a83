use Rattle.page_tokens.proofs.TokenLemmas.{no_fault}
use Rattle.page_tokens.proofs.laws.tokens_have_no_fault.Goals as goal

pub returns : goal.returns
returns c = no_fault
