use Rattle.std.proofs.Common.{◌≡◌, ◌+◌, ◌≤◌, length}
use Rattle.tap_reader.specs.Lines.{lines}
use Rattle.tap_reader.specs.Reports.{after_version}
use Rattle.tap_reader.proofs.reports.skip_version.Given as goal

abbrev pub invariant-loop-line : goal.invariant-loop-line
invariant-loop-line l = record {
  found : after_version l.number (lines l.rest) ≡ after_version 1 (lines l.text);
  within : l.number + length l.rest ≤ 1 + length l.text;
}

abbrev pub decreases-loop-line : goal.decreases-loop-line
decreases-loop-line l = length l.rest
