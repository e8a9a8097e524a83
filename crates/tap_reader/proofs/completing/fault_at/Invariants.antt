use Rattle.std.proofs.Common.{◌≡◌, map, drop}
use Rattle.tap_reader.specs.Entries.{line_of}
use Rattle.tap_reader.specs.Streams.{fault_of, first_in}
use Rattle.tap_reader.specs.Completing.{at_level}
use Rattle.tap_reader.proofs.completing.fault_at.Given as goal

abbrev pub invariant-loop-entry : goal.invariant-loop-entry
invariant-loop-entry l =
    first_in l.plan l.planned (at_level l.level (map line_of (drop l.entry-index l.entries)))
    ≡ fault_of (at_level l.level (map line_of l.entries))
