use Rattle.name_parts.proofs.PartLemmas.{IsPart-part_fault}
use Rattle.names_realms.proofs.laws.id_has_no_fault.Goals as goal

pub returns : goal.returns
returns c = IsPart-part_fault
