use Rattle.query_forms.specs.Results.{results_form}
use Rattle.query_forms.proofs.QueryLaws.{read_one_way}
use Rattle.query_forms.proofs.ResultLaws.{results_lawful}
use Rattle.query_forms.proofs.laws.results_are_read_one_way.Goals as goal

pub returns : goal.returns
returns c = read_one_way results_form results_lawful
