use Rattle.std.proofs.Common.{◌≡◌, take}
use Rattle.inclusion_graph.specs.Searches.{nodes_of}
use Rattle.inclusion_graph.proofs.search.nodes_of.Given as goal

abbrev pub invariant-loop-step : goal.invariant-loop-step
invariant-loop-step l = l.nodes.items ≡ nodes_of (take l.step-index l.steps)
