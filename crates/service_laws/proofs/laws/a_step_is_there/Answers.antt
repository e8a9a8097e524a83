use Rattle.service_laws.proofs.ThereLaws.{step_there}
use Rattle.service_laws.proofs.laws.a_step_is_there.Goals as goal

pub returns : goal.returns
returns c = step_there
