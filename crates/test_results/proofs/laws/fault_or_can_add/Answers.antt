use Rattle.test_results.proofs.FaultLemmas.{fault_or_not}
use Rattle.test_results.proofs.laws.fault_or_can_add.Goals as goal

pub returns : goal.returns
returns c = fault_or_not
