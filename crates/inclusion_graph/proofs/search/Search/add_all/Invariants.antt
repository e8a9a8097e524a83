use Rattle.std.proofs.Common.{take}
use Rattle.inclusion_graph.specs.Searches.{IsGrown, IsPlaced}
use Rattle.inclusion_graph.proofs.search.Search.add_all.Given as goal

abbrev pub invariant-loop-node : goal.invariant-loop-node
invariant-loop-node l = record {
  placed : IsPlaced l.self.places.entries l.self.steps.items;
  grown : IsGrown (take l.node-index l.nodes) l.back l.initial.self.steps.items l.self.steps.items;
}
