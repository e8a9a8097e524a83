use Rattle.names_realms.proofs.NameLaws.{one_parent_named}
use Rattle.names_realms.proofs.laws.one_parent_named.Goals as goal

pub returns : goal.returns
returns c = one_parent_named
