use Rattle.invocations.proofs.LawLemmas.{one_next}
use Rattle.invocations.proofs.laws.has_one_next.Goals as goal

pub returns : goal.returns
returns c = one_next
