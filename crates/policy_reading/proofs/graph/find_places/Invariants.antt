use Rattle.std.proofs.Common.{◌≡◌, ℕ, ◌||◌, length, take}
use Rattle.permissions.specs.Graph.{has}
use Rattle.policy_reading.specs.CycleSearch.{IsMarked}
use Rattle.policy_reading.proofs.graph.find_places.Given as goal

-- the places so far are found, beside those before
abbrev pub invariant-loop-i : goal.invariant-loop-i
invariant-loop-i l = record {
  len : length l.marks ≡ length l.initial.marks;
  marked : IsMarked l.marks l.found.items;
  found : (q : ℕ) → has q l.found.items ≡ (has q l.initial.found.items || has q (take l.i l.places));
  kept : take (length l.initial.found.items) l.found.items ≡ l.initial.found.items;
}
