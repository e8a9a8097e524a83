use Rattle.artifact_forms.specs.Methods.{list_form}
use Rattle.artifact_forms.proofs.MethodLaws.{sound, list_lawful}
use Rattle.artifact_forms.proofs.laws.lists_are_sound.Goals as goal

pub returns : goal.returns
returns c = sound list_form list_lawful
