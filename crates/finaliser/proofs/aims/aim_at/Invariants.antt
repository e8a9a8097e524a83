use Rattle.std.proofs.Common.{◌≡◌, ◌-◌, vec_capacity}
use Rattle.finaliser.specs.Holding.{IsOutOfSame}
use Rattle.finaliser.specs.Watching.{AreWatched}
use Rattle.finaliser.proofs.aims.aim_at.Given as goal

abbrev pub invariant-nodes : goal.invariant-nodes
invariant-nodes l = record {
  watched : AreWatched l.graph.edges l.states l.watches.items;
  same : IsOutOfSame l.initial.seen l.seen;
  capacity : vec_capacity l.watches ≡ vec_capacity l.initial.watches;
}

abbrev pub decreases-nodes : goal.decreases-nodes
decreases-nodes l = l.initial.seen.below - l.at
