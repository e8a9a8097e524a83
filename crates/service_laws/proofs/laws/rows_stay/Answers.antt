use Rattle.service_laws.proofs.StayLaws.{rows_stay}
use Rattle.service_laws.proofs.laws.rows_stay.Goals as goal

pub returns : goal.returns
returns c = rows_stay
