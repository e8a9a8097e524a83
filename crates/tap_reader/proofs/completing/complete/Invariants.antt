use Rattle.std.proofs.Common.{◌≡◌, map, take, filter}
use Rattle.std.specs.Prelude.{fold}
use Rattle.tap_reader.specs.Entries.{line_of}
use Rattle.tap_reader.specs.Streams.{in_tree}
use Rattle.tap_reader.specs.Completing.{with_line}
use Rattle.tap_reader.specs.CompletingViews.{empty_state, state_of}
use Rattle.tap_reader.proofs.completing.complete.Given as goal

abbrev pub invariant-loop-entry : goal.invariant-loop-entry
invariant-loop-entry l =
    fold (with_line l.fill) empty_state (filter in_tree (map line_of (take l.entry-index l.lines))) ≡ state_of l.streams
