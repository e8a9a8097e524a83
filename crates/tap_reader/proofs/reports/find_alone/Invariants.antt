use Rattle.std.proofs.Common.{◌≡◌, ◌≤◌, map, drop}
use Rattle.tap_reader.specs.Entries.{line_of}
use Rattle.tap_reader.specs.Streams.{first_alone}
use Rattle.tap_reader.proofs.reports.find_alone.Given as goal

abbrev pub invariant-loop-entry : goal.invariant-loop-entry
invariant-loop-entry l = record {
  sum : l.sum ≤ 1000000;
  found : first_alone l.sum (map line_of (drop l.entry-index l.entries)) ≡ first_alone 0 (map line_of l.entries);
}
