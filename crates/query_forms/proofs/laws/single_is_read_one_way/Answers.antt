use Rattle.query_forms.specs.Single.{single_form}
use Rattle.query_forms.proofs.QueryLaws.{read_one_way}
use Rattle.query_forms.proofs.SingleLaws.{single_lawful}
use Rattle.query_forms.proofs.laws.single_is_read_one_way.Goals as goal

pub returns : goal.returns
returns c = read_one_way single_form single_lawful
