use Rattle.service_machine.proofs.MachineLaws.{replays_are_alone}
use Rattle.service_machine.proofs.laws.replays_are_alone.Goals as goal

pub returns : goal.returns
returns c = replays_are_alone
