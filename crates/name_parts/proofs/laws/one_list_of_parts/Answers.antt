use Rattle.name_parts.proofs.NameLemmas.{one_list_of_parts}
use Rattle.name_parts.proofs.laws.one_list_of_parts.Goals as goal

pub returns : goal.returns
returns c = one_list_of_parts
