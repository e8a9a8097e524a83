use Rattle.invocation_world.proofs.FinalFacts.{advance_final}
use Rattle.invocation_world.proofs.laws.advance_keeps_final.Goals as goal

pub returns : goal.returns
returns c = advance_final
