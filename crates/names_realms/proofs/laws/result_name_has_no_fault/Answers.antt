use Rattle.names_realms.proofs.ResultNameLemmas.{IsResultName-fault}
use Rattle.names_realms.proofs.laws.result_name_has_no_fault.Goals as goal

pub returns : goal.returns
returns c = IsResultName-fault
