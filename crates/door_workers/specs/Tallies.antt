-- What a worker counts.
use Rattle.std.specs.Prelude.{◌≡◌, ℕ, ◌+◌, ◌-◌, ◌^◌, min, false, List, length}
use Rattle.fault_counts.specs.Causes.{counted}
use Rattle.door_workers.specs.Visits.{Visit, calls_on}
use Rattle.door_workers.specs.declared.tally.Tally.{Tally}

-- a number, or the greatest u64 where it is more
abbrev pub up_to_most : ℕ → ℕ
up_to_most n = min n (2 ^ 64 - 1)

abbrev pub nothing_counted : Tally
nothing_counted = record { connections = 0; calls = 0; failed = false }

-- with one link more, on which so many calls were made
abbrev pub one_link_more : Tally → ℕ → Tally
one_link_more tally calls = record tally {
  connections = counted tally.connections;
  calls = up_to_most (tally.calls + calls);
}

-- The links are counted, and the calls on them.
pub record Counts {L : Type 0} (tally : Tally) (visits : List (Visit L)) : Type 0 where
  pub connections : tally.connections ≡ up_to_most (length visits)
  pub calls : tally.calls ≡ up_to_most (calls_on visits)
