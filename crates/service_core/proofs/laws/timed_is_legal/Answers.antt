use Rattle.service_core.proofs.HistoryLaws.{timed_is_legal}
use Rattle.service_core.proofs.laws.timed_is_legal.Goals as goal

pub returns : goal.returns
returns c = timed_is_legal
