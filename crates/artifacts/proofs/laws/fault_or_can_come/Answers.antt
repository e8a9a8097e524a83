use Rattle.artifacts.proofs.FaultLemmas.{fault_or_can_come}
use Rattle.artifacts.proofs.laws.fault_or_can_come.Goals as goal

pub returns : goal.returns
returns c = fault_or_can_come
