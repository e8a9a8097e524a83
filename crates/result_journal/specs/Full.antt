-- A record that can't be prepared.
use Rattle.std.specs.Prelude.{◌≡◌, ℕ, ◌+◌, ◌^◌, ◌<◌, ◌≤◌}
use Rattle.result_journal.specs.declared.journal.Full.{Full}
use Rattle.result_journal.specs.declared.journal.Full.TheVariants.{Record, Memory}

-- It is told of the record of this length behind this place, and it ends past 2^30; or memory was
-- wanting, and it doesn't.
abbrev pub IsFullFor : ℕ → ℕ → Full → Type 0
IsFullFor end length (Record at size) = (at ≡ end) × (size ≡ length) × (2 ^ 30 < end + length + 1)
IsFullFor end length Memory = end + length + 1 ≤ 2 ^ 30
