use Rattle.invocation_world.proofs.ExistFacts.{advance_there}
use Rattle.invocation_world.proofs.laws.an_advance_is_there.Goals as goal

pub returns : goal.returns
returns c = advance_there
