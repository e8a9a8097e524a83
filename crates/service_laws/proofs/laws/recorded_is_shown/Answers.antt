use Rattle.service_laws.proofs.ShownLaws.{recorded_is_shown}
use Rattle.service_laws.proofs.laws.recorded_is_shown.Goals as goal

pub returns : goal.returns
returns c = recorded_is_shown
