use Rattle.name_parts.proofs.NameLemmas.{name_has_no_fault}
use Rattle.name_parts.proofs.laws.name_has_no_fault.Goals as goal

pub returns : goal.returns
returns c = name_has_no_fault
