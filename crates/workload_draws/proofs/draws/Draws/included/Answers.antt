use Rattle.std.proofs.Common.{◌≡◌, refl}
use Rattle.workload_draws.specs.Draws.{state_behind}
use Rattle.workload_draws.proofs.draws.Draws.included.Goals as goal

pub returns-then-number-eq0-clause-left : goal.returns-then-number-eq0-clause-left
unfolding state_behind
returns-then-number-eq0-clause-left c = rw c.if-number-eq0.true refl
