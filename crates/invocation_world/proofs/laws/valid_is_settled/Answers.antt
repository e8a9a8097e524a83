use Rattle.invocation_world.proofs.ValidFacts.{valid_settles}
use Rattle.invocation_world.proofs.laws.valid_is_settled.Goals as goal

pub returns : goal.returns
returns c = valid_settles
