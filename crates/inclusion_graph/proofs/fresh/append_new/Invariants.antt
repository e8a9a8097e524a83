use Rattle.std.proofs.Common.{◌≡◌, ◌+◌, ◌≤◌, ◌++◌, length, take, drop, vec_len, vec_capacity}
use Rattle.inclusion_graph.specs.Edges.{fresh}
use Rattle.inclusion_graph.specs.Searches.{IsJoined}
use Rattle.inclusion_graph.proofs.fresh.append_new.Given as goal

abbrev pub invariant-loop-target : goal.invariant-loop-target
invariant-loop-target l = record {
  joined : IsJoined l.edges.edges l.from l.edges.nodes (take l.target-index l.targets) l.marks.items l.all.items;
  all : l.all.items ++ fresh l.all.items (drop l.target-index l.targets) ≡ l.initial.all.items ++ fresh l.initial.all.items l.targets;
  room : vec_len l.all + length (drop l.target-index l.targets) ≤ vec_capacity l.all;
  capacity : vec_capacity l.marks ≡ vec_capacity l.initial.marks;
}
