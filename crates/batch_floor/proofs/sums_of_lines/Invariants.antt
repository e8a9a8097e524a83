use Rattle.std.proofs.Common.{length}
use Rattle.batch_floor.proofs.LineLemmas.{SumsSoFar}
use Rattle.batch_floor.proofs.sums_of_lines.Given as goal

abbrev pub invariant-loop-end : goal.invariant-loop-end
invariant-loop-end l = SumsSoFar l.fn.input l.rest l.sums

abbrev pub decreases-loop-end : goal.decreases-loop-end
decreases-loop-end l = length l.rest
