use Rattle.std.proofs.Common.{◌≤◌, length, map, drop}
use Rattle.tap_reader.specs.Entries.{line_of}
use Rattle.tap_reader.proofs.RunLemmas.{NoneHigher}
use Rattle.tap_reader.proofs.completing.run_start.Given as goal

abbrev pub invariant-loop-start : goal.invariant-loop-start
invariant-loop-start l = record {
  within : l.start ≤ length l.entries;
  levels : NoneHigher l.level (map line_of (drop l.start l.entries));
}

abbrev pub decreases-loop-start : goal.decreases-loop-start
decreases-loop-start l = l.start
