use Rattle.junit_reader.proofs.RunLaws.{one_fault}
use Rattle.junit_reader.proofs.laws.one_fault.Goals as goal

pub returns : goal.returns
returns c = one_fault
