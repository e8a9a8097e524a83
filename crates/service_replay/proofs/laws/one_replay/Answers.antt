use Rattle.service_replay.proofs.ReplayLaws.{one_replay}
use Rattle.service_replay.proofs.laws.one_replay.Goals as goal

pub returns : goal.returns
returns c = one_replay
