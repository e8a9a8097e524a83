use Rattle.invocation_world.proofs.UpdateFacts.{update_told}
use Rattle.invocation_world.proofs.laws.update_is_told.Goals as goal

pub returns : goal.returns
returns c = update_told
