use Rattle.artifact_forms.specs.Methods.{artifact_form}
use Rattle.artifact_forms.proofs.MethodLaws.{sound, artifact_lawful}
use Rattle.artifact_forms.proofs.laws.names_are_sound.Goals as goal

pub returns : goal.returns
returns c = sound artifact_form artifact_lawful
