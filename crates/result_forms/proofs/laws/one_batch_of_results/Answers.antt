use Rattle.result_forms.specs.Methods.{results_form}
use Rattle.result_forms.proofs.MethodLaws.{asks_for_one, results_lawful}
use Rattle.result_forms.proofs.laws.one_batch_of_results.Goals as goal

pub returns : goal.returns
returns c = asks_for_one results_form results_lawful
