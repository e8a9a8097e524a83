use Rattle.invocation_world.proofs.ExistFacts.{settling_there}
use Rattle.invocation_world.proofs.laws.a_settling_is_there.Goals as goal

pub returns : goal.returns
returns c = settling_there
