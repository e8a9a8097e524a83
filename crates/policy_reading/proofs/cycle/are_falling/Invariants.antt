use Rattle.std.proofs.Common.{◌<◌, ◌≤◌, ◌≡◌, ℕ, true}
use Rattle.permissions.specs.Graph.{has, edges}
use Rattle.policy_reading.specs.CycleSearch.{label_at}
use Rattle.policy_reading.proofs.cycle.are_falling.Given as goal

abbrev pub invariant-loop-place : goal.invariant-loop-place
invariant-loop-place l = (p q : ℕ) → p < l.place → has q (edges l.graph p) ≡ true → label_at l.labels q ≤ label_at l.labels p
