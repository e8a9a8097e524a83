use Rattle.std.proofs.Common.{◌≡◌, ◌≤◌, length, map, take}
use Rattle.tap_reader.specs.Entries.{line_of}
use Rattle.tap_reader.specs.Completing.{last_number}
use Rattle.tap_reader.proofs.completing.last_number_of.Given as goal

abbrev pub invariant-loop-end : goal.invariant-loop-end
invariant-loop-end l = record {
  within : l.end ≤ length l.entries;
  last : last_number l.level (map line_of (take l.end l.entries)) ≡ last_number l.level (map line_of l.entries);
}

abbrev pub decreases-loop-end : goal.decreases-loop-end
decreases-loop-end l = l.end
