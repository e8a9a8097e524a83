use Rattle.std.proofs.Common.{◌≡◌, vec_capacity}
use Rattle.finaliser.specs.Holding.{ArePassed, IsOutOfSame, edges_left}
use Rattle.finaliser.specs.Watching.{AreWatched}
use Rattle.finaliser.proofs.aims.aim_sources.Given as goal

abbrev pub invariant-sources : goal.invariant-sources
invariant-sources l = record {
  passed : ArePassed l.graph.edges (λ n. ⊥) (λ n. ⊥) l.node l.seen.nodes l.next;
  watched : AreWatched l.graph.edges l.states l.watches.items;
  same : IsOutOfSame l.initial.seen l.seen;
  capacity : vec_capacity l.watches ≡ vec_capacity l.initial.watches;
}

abbrev pub decreases-sources : goal.decreases-sources
decreases-sources l = edges_left l.graph.edges l.next
