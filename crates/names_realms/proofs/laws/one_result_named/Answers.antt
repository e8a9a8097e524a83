use Rattle.names_realms.proofs.NameLaws.{one_result_named}
use Rattle.names_realms.proofs.laws.one_result_named.Goals as goal

pub returns : goal.returns
returns c = one_result_named
