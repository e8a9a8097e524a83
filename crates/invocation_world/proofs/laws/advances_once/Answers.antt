use Rattle.invocation_world.proofs.AdvanceFacts.{advanced_once}
use Rattle.invocation_world.proofs.laws.advances_once.Goals as goal

pub returns : goal.returns
returns c = advanced_once
