use Rattle.verdict_masks.proofs.CutLemmas.{has_cut_is}
use Rattle.verdict_masks.proofs.laws.a_cut_is_there.Goals as goal

pub returns : goal.returns
returns c = has_cut_is
