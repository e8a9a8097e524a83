use Rattle.junit_reader.proofs.RunLaws.{cases_or_a_fault}
use Rattle.junit_reader.proofs.laws.cases_or_a_fault.Goals as goal

pub returns : goal.returns
returns c = cases_or_a_fault
