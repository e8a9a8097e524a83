use Rattle.std.proofs.Common.{◌≡◌, ℕ, true, false, length, get_or}
use Rattle.permissions.specs.Graph.{ReachesOn}
use Rattle.policy_reading.proofs.cycle.rule_out.Given as goal

abbrev pub invariant-loop-place : goal.invariant-loop-place
invariant-loop-place l = record {
  len : length l.out.items ≡ l.place;
  out : (p : ℕ) → get_or l.out.items p false ≡ true → ReachesOn l.graph p p → ⊥;
}
