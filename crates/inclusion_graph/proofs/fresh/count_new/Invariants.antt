use Rattle.std.proofs.Common.{◌≡◌, ◌+◌, ◌≤◌, ℕ, List, length, drop, vec_capacity}
use Rattle.inclusion_graph.specs.Edges.{fresh}
use Rattle.inclusion_graph.specs.Searches.{HasMarks}
use Rattle.inclusion_graph.proofs.fresh.count_new.Given as goal

abbrev pub invariant-loop-target : goal.invariant-loop-target
invariant-loop-target l = record {
  all : List ℕ;
  says : HasMarks l.marks.items (length l.initial.marks.items) all;
  count : l.count + length (fresh all (drop l.target-index l.targets)) ≡ length (fresh l.held l.targets);
  few : l.count ≤ l.target-index;
  capacity : vec_capacity l.marks ≡ vec_capacity l.initial.marks;
}
