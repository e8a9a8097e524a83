use Rattle.junit_reader.proofs.RunLaws.{one_list_of_cases}
use Rattle.junit_reader.proofs.laws.one_list_of_cases.Goals as goal

pub returns : goal.returns
returns c = one_list_of_cases
