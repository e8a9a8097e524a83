use Rattle.artifact_forms.specs.Methods.{artifacts_form}
use Rattle.artifact_forms.proofs.MethodLaws.{sound, artifacts_lawful}
use Rattle.artifact_forms.proofs.laws.batches_are_sound.Goals as goal

pub returns : goal.returns
returns c = sound artifacts_form artifacts_lawful
