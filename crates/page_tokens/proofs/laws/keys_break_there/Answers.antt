use Rattle.page_tokens.proofs.KeyLemmas.{breaks_there, judged}
use Rattle.page_tokens.proofs.laws.keys_break_there.Goals as goal

pub returns : goal.returns
returns c parts bytes at are = ((judged parts bytes are).breaks at, breaks_there parts bytes at)
