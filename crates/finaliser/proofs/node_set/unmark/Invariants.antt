use Rattle.std.proofs.Common.{◌≡◌, ℕ, length, drop, Contains, vec_capacity}
use Rattle.finaliser.specs.Marks.{Marks}
use Rattle.finaliser.proofs.node_set.unmark.Given as goal

abbrev pub invariant-loop-node : goal.invariant-loop-node
invariant-loop-node l = record {
  left : (n : ℕ) → Marks l.marks.items n → Contains (drop l.node-index l.nodes) n;
  count : length l.marks.items ≡ length l.initial.marks.items;
  capacity : vec_capacity l.marks ≡ vec_capacity l.initial.marks;
}
