use Rattle.test_results.proofs.FaultLemmas.{one_fault}
use Rattle.test_results.proofs.laws.one_batch_fault.Goals as goal

pub returns : goal.returns
returns c = one_fault
