use Rattle.std.proofs.Common.{◌<◌, ◌≤◌, ◌-◌, length}
use Rattle.std.specs.List.{All}
use Rattle.inclusion_graph.specs.Searches.{IsPlaced, IsSearched}
use Rattle.inclusion_graph.proofs.graph.Graph.search.Given as goal

abbrev pub invariant-steps : goal.invariant-steps
invariant-steps l = record {
  placed : IsPlaced l.search.places.entries l.search.steps.items;
  nodes : All (λ step. step.node < l.self.nodes) l.search.steps.items;
  all : IsSearched l.self.edges l.roots l.search.steps.items l.at;
  within : l.at ≤ length l.search.steps.items;
}

abbrev pub decreases-steps : goal.decreases-steps
decreases-steps l = l.self.nodes - l.at
