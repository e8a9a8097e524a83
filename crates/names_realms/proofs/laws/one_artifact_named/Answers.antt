use Rattle.names_realms.proofs.NameLaws.{one_artifact_named}
use Rattle.names_realms.proofs.laws.one_artifact_named.Goals as goal

pub returns : goal.returns
returns c = one_artifact_named
