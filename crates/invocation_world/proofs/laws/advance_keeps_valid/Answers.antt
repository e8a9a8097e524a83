use Rattle.invocation_world.proofs.AdvanceFacts.{advance_valid}
use Rattle.invocation_world.proofs.laws.advance_keeps_valid.Goals as goal

pub returns : goal.returns
returns c = advance_valid
