use Rattle.verdict_masks.proofs.CutLemmas.{hidden_unseen_is}
use Rattle.verdict_masks.proofs.laws.hidden_unseen.Goals as goal

pub returns : goal.returns
returns c = hidden_unseen_is
