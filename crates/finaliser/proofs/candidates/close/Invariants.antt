use Rattle.std.proofs.Common.{◌≡◌, ◌≤◌, ◌-◌, length, vec_capacity}
use Rattle.names_realms.specs.declared.states.State.TheVariants.{Finalizing}
use Rattle.finaliser.specs.Holding.{Comes, IsClosedBelow, IsGrown}
use Rattle.finaliser.specs.Settling.{IsIn, ReachesActive}
use Rattle.finaliser.specs.Watching.{AreWatched}
use Rattle.finaliser.proofs.candidates.close.Given as goal

abbrev pub invariant-nodes : goal.invariant-nodes
invariant-nodes l = record {
  grown : IsGrown (Comes l.graph.edges (IsIn Finalizing l.states) l.initial.set.nodes) l.initial.set l.set;
  closed : IsClosedBelow l.graph.edges (IsIn Finalizing l.states) (ReachesActive l.graph.edges l.states) l.set.nodes l.at;
  within : l.at ≤ length l.set.nodes;
  watched : AreWatched l.graph.edges l.states l.watches.items;
  capacity : vec_capacity l.watches ≡ vec_capacity l.initial.watches;
}

abbrev pub decreases-nodes : goal.decreases-nodes
decreases-nodes l = l.initial.set.below - l.at
