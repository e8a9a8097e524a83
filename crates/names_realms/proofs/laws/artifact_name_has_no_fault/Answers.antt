use Rattle.names_realms.proofs.ArtifactNameLemmas.{IsArtifactName-fault}
use Rattle.names_realms.proofs.laws.artifact_name_has_no_fault.Goals as goal

pub returns : goal.returns
returns c = IsArtifactName-fault
