use Rattle.std.proofs.Common.{◌≡◌, ◌-◌}
use Rattle.tap_reader.specs.Completing.{closed_above, shut}
use Rattle.tap_reader.specs.CompletingViews.{state_of}
use Rattle.tap_reader.proofs.completing.Streams.close_above.Given as goal

abbrev pub invariant-loop-at : goal.invariant-loop-at
invariant-loop-at l = shut l.fill l.level (l.at - l.level) (state_of l.self) ≡ closed_above l.fill l.level (state_of l.fn.self)

abbrev pub decreases-loop-at : goal.decreases-loop-at
decreases-loop-at l = l.at
