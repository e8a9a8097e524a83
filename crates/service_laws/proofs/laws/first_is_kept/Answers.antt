use Rattle.service_laws.proofs.OnceLaws.{first_is_kept}
use Rattle.service_laws.proofs.laws.first_is_kept.Goals as goal

pub returns : goal.returns
returns c = first_is_kept
