use Rattle.std.proofs.Common.{◌≡◌, ◌≤◌, ◌+◌, ℕ, length}
use Rattle.artifacts.specs.Lists.{list_of, room_of}
use Rattle.artifacts.proofs.holder_lists.HolderLists.fill.Given as goal

abbrev pub invariant-loop : goal.invariant-loop
invariant-loop l = record {
  list : (other : ℕ) → list_of l.self other ≡ list_of l.initial.self other;
  room : (other : ℕ) → room_of l.initial.self other ≤ room_of l.self other;
  count : length l.self.lists ≡ length l.initial.self.lists + l.counter;
}
