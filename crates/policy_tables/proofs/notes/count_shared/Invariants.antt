use Rattle.std.proofs.Common.{length, ◌-◌}
use Rattle.policy_tables.specs.Notes.{HaveFront}
use Rattle.policy_tables.proofs.notes.count_shared.Given as goal

abbrev pub invariant-loop-count : goal.invariant-loop-count
invariant-loop-count l = HaveFront l.left l.right l.count

abbrev pub decreases-loop-count : goal.decreases-loop-count
decreases-loop-count l = length l.left - l.count
