use Rattle.service_laws.proofs.TickLaws.{ticks_fit}
use Rattle.service_laws.proofs.laws.ticks_fit.Goals as goal

pub returns : goal.returns
returns c = ticks_fit
