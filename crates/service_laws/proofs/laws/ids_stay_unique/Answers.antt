use Rattle.service_laws.proofs.ValidLaws.{legal_keeps_valid}
use Rattle.service_laws.proofs.laws.ids_stay_unique.Goals as goal

pub returns : goal.returns
returns c = legal_keeps_valid
