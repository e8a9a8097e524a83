use Rattle.invocations.proofs.LawLemmas.{one_place}
use Rattle.invocations.proofs.laws.finds_one_place.Goals as goal

pub returns : goal.returns
returns c = one_place
