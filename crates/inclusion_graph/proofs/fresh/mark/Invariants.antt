use Rattle.std.proofs.Common.{◌≡◌, length, take, vec_capacity}
use Rattle.inclusion_graph.specs.Searches.{HasMarks}
use Rattle.inclusion_graph.proofs.fresh.mark.Given as goal

abbrev pub invariant-loop-node : goal.invariant-loop-node
invariant-loop-node l = record {
  says : HasMarks l.marks.items (length l.initial.marks.items) (take l.node-index l.nodes);
  capacity : vec_capacity l.marks ≡ vec_capacity l.initial.marks;
}
