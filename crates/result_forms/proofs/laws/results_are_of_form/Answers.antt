use Rattle.result_forms.specs.Methods.{results_form}
use Rattle.result_forms.proofs.MethodLaws.{asks_of_form, results_lawful}
use Rattle.result_forms.proofs.laws.results_are_of_form.Goals as goal

pub returns : goal.returns
returns c = asks_of_form results_form results_lawful
