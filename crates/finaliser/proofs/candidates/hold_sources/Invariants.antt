use Rattle.std.proofs.Common.{Contains}
use Rattle.finaliser.specs.Holding.{ArePassed, IsGrown, IsSource, edges_left}
use Rattle.finaliser.proofs.candidates.hold_sources.Given as goal

abbrev pub invariant-sources : goal.invariant-sources
invariant-sources l = record {
  grown : IsGrown (IsSource l.graph.edges (Contains l.found.nodes) l.node) l.initial.held l.held;
  passed : ArePassed l.graph.edges (Contains l.found.nodes) (λ n. ⊥) l.node l.held.nodes l.next;
}

abbrev pub decreases-sources : goal.decreases-sources
decreases-sources l = edges_left l.graph.edges l.next
