use Rattle.service_replay.proofs.ReplayLaws.{recorded_is_replayed}
use Rattle.service_replay.proofs.laws.recorded_is_replayed.Goals as goal

pub returns : goal.returns
returns c = recorded_is_replayed
