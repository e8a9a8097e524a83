use Rattle.names_realms.proofs.ParentLemmas.{IsParentName-fault}
use Rattle.names_realms.proofs.laws.parent_name_has_no_fault.Goals as goal

pub returns : goal.returns
returns c = IsParentName-fault
