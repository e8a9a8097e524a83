use Rattle.std.proofs.Common.{◌≡◌, ◌+◌, ◌-◌, ◌*◌, ◌<◌, ◌≤◌}
use Rattle.moments_spans.specs.MomentReading.{fraction_from}
use Rattle.moments_spans.proofs.moment_reading.fraction.Given as goal

abbrev pub invariant-loop-place : goal.invariant-loop-place
invariant-loop-place l = record {
  same : fraction_from (9 - l.place) l.worth l.micros l.rest ≡ fraction_from 9 100_000 0 l.text;
  few : l.micros < 1_000_000;
  room : l.micros + 10 * l.worth ≤ 1_000_000;
}
