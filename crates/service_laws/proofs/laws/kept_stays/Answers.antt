use Rattle.service_laws.proofs.OnceLaws.{kept_stays}
use Rattle.service_laws.proofs.laws.kept_stays.Goals as goal

pub returns : goal.returns
returns c = kept_stays
