use Rattle.invocation_world.proofs.FinalFacts.{settling_final}
use Rattle.invocation_world.proofs.laws.settling_keeps_final.Goals as goal

pub returns : goal.returns
returns c = settling_final
