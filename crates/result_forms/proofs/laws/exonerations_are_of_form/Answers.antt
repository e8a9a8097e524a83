use Rattle.result_forms.specs.Methods.{exonerations_form}
use Rattle.result_forms.proofs.MethodLaws.{asks_of_form, exonerations_lawful}
use Rattle.result_forms.proofs.laws.exonerations_are_of_form.Goals as goal

pub returns : goal.returns
returns c = asks_of_form exonerations_form exonerations_lawful
