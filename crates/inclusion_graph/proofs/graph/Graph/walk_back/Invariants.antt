use Rattle.std.proofs.Common.{◌≡◌, ◌<◌, ℕ, Some, length, reverse}
use Rattle.std.specs.List.{slice_get}
use Rattle.inclusion_graph.specs.Searches.{nodes_of}
use Rattle.inclusion_graph.specs.Walks.{Leads}
use Rattle.inclusion_graph.proofs.graph.Graph.walk_back.Given as goal

abbrev pub invariant-back : goal.invariant-back
invariant-back l = record {
  within : l.at < length l.search.steps.items;
  leads : (n to : ℕ) → slice_get (nodes_of l.search.steps.items) l.at ≡ Some n
      → slice_get (nodes_of l.search.steps.items) l.place ≡ Some to → Leads l.self.edges (reverse l.walk.items) n to;
}

abbrev pub decreases-back : goal.decreases-back
decreases-back l = l.at
