use Rattle.std.proofs.Common.{◌≡◌, ◌<◌, ℕ, false, length, get_or, vec_capacity}
use Rattle.inclusion_graph.proofs.fresh.unmark_all.Given as goal

abbrev pub invariant-loop-node : goal.invariant-loop-node
invariant-loop-node l = record {
  none : (n : ℕ) → n < l.node → get_or l.marks.items n false ≡ false;
  count : length l.marks.items ≡ length l.initial.marks.items;
  capacity : vec_capacity l.marks ≡ vec_capacity l.initial.marks;
}
