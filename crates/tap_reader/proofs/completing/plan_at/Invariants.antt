use Rattle.std.proofs.Common.{◌≡◌, map, drop}
use Rattle.tap_reader.specs.Entries.{line_of}
use Rattle.tap_reader.specs.Streams.{plan_of}
use Rattle.tap_reader.specs.Completing.{at_level}
use Rattle.tap_reader.proofs.completing.plan_at.Given as goal

abbrev pub invariant-loop-entry : goal.invariant-loop-entry
invariant-loop-entry l =
    plan_of (at_level l.level (map line_of (drop l.entry-index l.entries))) ≡ plan_of (at_level l.level (map line_of l.entries))
