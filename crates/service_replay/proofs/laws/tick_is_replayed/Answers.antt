use Rattle.service_replay.proofs.ReplayLaws.{tick_is_replayed}
use Rattle.service_replay.proofs.laws.tick_is_replayed.Goals as goal

pub returns : goal.returns
returns c = tick_is_replayed
