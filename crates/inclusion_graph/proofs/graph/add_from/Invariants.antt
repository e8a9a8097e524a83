use Rattle.std.proofs.Common.{take}
use Rattle.inclusion_graph.specs.Edges.{IsRoomier, with_edges}
use Rattle.inclusion_graph.proofs.graph.add_from.Given as goal

abbrev pub invariant-loop-to : goal.invariant-loop-to
invariant-loop-to l = IsRoomier (with_edges l.from (take l.to-index l.targets) l.initial.edges) l.edges
