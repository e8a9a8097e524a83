use Rattle.service_machine.proofs.MachineLaws.{replayed_is_carried}
use Rattle.service_machine.proofs.laws.replayed_is_carried.Goals as goal

pub returns : goal.returns
returns c = replayed_is_carried
