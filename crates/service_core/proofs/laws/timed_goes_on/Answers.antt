use Rattle.service_core.proofs.HistoryLaws.{timed_goes_on}
use Rattle.service_core.proofs.laws.timed_goes_on.Goals as goal

pub returns : goal.returns
returns c = timed_goes_on
