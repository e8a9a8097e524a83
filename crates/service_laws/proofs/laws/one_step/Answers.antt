use Rattle.service_laws.proofs.StepLaws.{one_step}
use Rattle.service_laws.proofs.laws.one_step.Goals as goal

pub returns : goal.returns
returns c = one_step
