use Rattle.std.proofs.Common.{◌≤◌, ◌-◌, length, Contains}
use Rattle.finaliser.specs.Holding.{Comes, IsClosedBelow, IsGrown}
use Rattle.finaliser.proofs.candidates.hold_all.Given as goal

abbrev pub invariant-nodes : goal.invariant-nodes
invariant-nodes l = record {
  grown : IsGrown (Comes l.graph.edges (Contains l.found.nodes) l.initial.held.nodes) l.initial.held l.held;
  closed : IsClosedBelow l.graph.edges (Contains l.found.nodes) (λ n. ⊥) l.held.nodes l.at;
  within : l.at ≤ length l.held.nodes;
}

abbrev pub decreases-nodes : goal.decreases-nodes
decreases-nodes l = l.initial.held.below - l.at
