use Rattle.finaliser.proofs.LawLemmas.{settles_in_one_way}
use Rattle.finaliser.proofs.laws.settles_in_one_way.Goals as goal

pub returns : goal.returns
returns c = settles_in_one_way
