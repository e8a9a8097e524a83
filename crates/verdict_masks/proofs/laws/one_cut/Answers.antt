use Rattle.verdict_masks.proofs.CutLemmas.{one_cut_is}
use Rattle.verdict_masks.proofs.laws.one_cut.Goals as goal

pub returns : goal.returns
returns c = one_cut_is
