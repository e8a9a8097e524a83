use Rattle.names_realms.proofs.NameLaws.{one_invocation_named}
use Rattle.names_realms.proofs.laws.one_invocation_named.Goals as goal

pub returns : goal.returns
returns c = one_invocation_named
