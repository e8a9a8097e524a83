use Rattle.std.proofs.Common.{take}
use Rattle.std.specs.List.{All}
use Rattle.std.proofs.Common.{Contains}
use Rattle.finaliser.specs.Holding.{IsGrown, IsHeldUp}
use Rattle.finaliser.proofs.candidates.add_held_up.Given as goal

abbrev pub invariant-loop-node : goal.invariant-loop-node
invariant-loop-node l = record {
  grown : IsGrown (IsHeldUp l.graph.edges l.states l.found.nodes) l.initial.held l.held;
  all : All (λ node. IsHeldUp l.graph.edges l.states l.found.nodes node → Contains l.held.nodes node) (take l.node-index l.node-items);
}
