use Rattle.std.proofs.Common.{◌≡◌, ℕ, ◌<◌, ◌-◌, true, length, get_or}
use Rattle.permissions.specs.Graph.{has, edges, ReachesOn}
use Rattle.policy_reading.specs.CycleSearch.{IsMarked}
use Rattle.policy_reading.proofs.graph.find_others.Given as goal

-- where the start leads, and where each place before `at` leads, is found; each found place is reached
abbrev pub invariant-loop-at : goal.invariant-loop-at
invariant-loop-at l = record {
  len : length l.marks ≡ length l.graph;
  marked : IsMarked l.marks l.found.items;
  begun : (q : ℕ) → has q (edges l.graph l.start) ≡ true → has q l.found.items ≡ true;
  done : (i : ℕ) → i < l.at → (q : ℕ) → has q (edges l.graph (get_or l.found.items i 0)) ≡ true → has q l.found.items ≡ true;
  reached : (q : ℕ) → has q l.found.items ≡ true → ReachesOn l.graph l.start q;
}

abbrev pub decreases-loop-at : goal.decreases-loop-at
decreases-loop-at l = length l.graph - l.at
