use Rattle.artifacts.proofs.FaultLemmas.{one_fault}
use Rattle.artifacts.proofs.laws.one_batch_fault.Goals as goal

pub returns : goal.returns
returns c = one_fault
