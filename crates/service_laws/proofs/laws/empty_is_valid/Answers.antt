use Rattle.service_laws.proofs.EmptyLaws.{empty_is_valid}
use Rattle.service_laws.proofs.laws.empty_is_valid.Goals as goal

pub returns : goal.returns
returns c = empty_is_valid
