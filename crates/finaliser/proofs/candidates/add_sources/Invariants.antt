use Rattle.std.proofs.Common.{◌≡◌, vec_capacity}
use Rattle.names_realms.specs.declared.states.State.TheVariants.{Finalizing}
use Rattle.finaliser.specs.Holding.{ArePassed, IsGrown, IsSource, edges_left}
use Rattle.finaliser.specs.Settling.{IsIn, ReachesActive}
use Rattle.finaliser.specs.Watching.{AreWatched}
use Rattle.finaliser.proofs.candidates.add_sources.Given as goal

abbrev pub invariant-sources : goal.invariant-sources
invariant-sources l = record {
  grown : IsGrown (IsSource l.graph.edges (IsIn Finalizing l.states) l.node) l.initial.set l.set;
  passed : ArePassed l.graph.edges (IsIn Finalizing l.states) (ReachesActive l.graph.edges l.states) l.node l.set.nodes l.next;
  watched : AreWatched l.graph.edges l.states l.watches.items;
  capacity : vec_capacity l.watches ≡ vec_capacity l.initial.watches;
}

abbrev pub decreases-sources : goal.decreases-sources
decreases-sources l = edges_left l.graph.edges l.next
