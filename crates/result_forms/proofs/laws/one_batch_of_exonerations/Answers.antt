use Rattle.result_forms.specs.Methods.{exonerations_form}
use Rattle.result_forms.proofs.MethodLaws.{asks_for_one, exonerations_lawful}
use Rattle.result_forms.proofs.laws.one_batch_of_exonerations.Goals as goal

pub returns : goal.returns
returns c = asks_for_one exonerations_form exonerations_lawful
