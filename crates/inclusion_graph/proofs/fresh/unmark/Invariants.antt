use Rattle.std.proofs.Common.{◌≡◌, ℕ, true, false, length, drop, get_or, Contains, vec_capacity}
use Rattle.inclusion_graph.proofs.fresh.unmark.Given as goal

abbrev pub invariant-loop-node : goal.invariant-loop-node
invariant-loop-node l = record {
  left : (n : ℕ) → get_or l.marks.items n false ≡ true → Contains (drop l.node-index l.nodes) n;
  count : length l.marks.items ≡ length l.initial.marks.items;
  capacity : vec_capacity l.marks ≡ vec_capacity l.initial.marks;
}
