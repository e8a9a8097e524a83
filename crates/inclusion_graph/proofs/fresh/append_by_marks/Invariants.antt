use Rattle.std.proofs.Common.{◌≡◌, ◌+◌, ◌<◌, ◌≤◌, ◌++◌, length, drop, vec_len, vec_capacity}
use Rattle.std.specs.List.{All}
use Rattle.inclusion_graph.specs.Edges.{fresh}
use Rattle.inclusion_graph.specs.Searches.{HasMarks}
use Rattle.inclusion_graph.proofs.fresh.append_by_marks.Given as goal

abbrev pub invariant-loop-target : goal.invariant-loop-target
invariant-loop-target l = record {
  says : HasMarks l.marks.items (length l.initial.marks.items) l.all.items;
  within : All (λ target. target < length l.initial.marks.items) l.all.items;
  all : l.all.items ++ fresh l.all.items (drop l.target-index l.targets) ≡ l.initial.all.items ++ fresh l.initial.all.items l.targets;
  room : vec_len l.all + length (drop l.target-index l.targets) ≤ vec_capacity l.all;
  capacity : vec_capacity l.marks ≡ vec_capacity l.initial.marks;
}
