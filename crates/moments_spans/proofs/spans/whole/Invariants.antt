use Rattle.std.proofs.Common.{◌≡◌, ◌-◌, ◌^◌, ◌<◌}
use Rattle.moments_spans.specs.SpanReading.{whole_from}
use Rattle.moments_spans.proofs.spans.whole.Given as goal

abbrev pub invariant-loop-place : goal.invariant-loop-place
invariant-loop-place l = record {
  same : whole_from (12 - l.place) l.number l.rest ≡ whole_from 12 0 l.text;
  few : l.number < 10 ^ l.place;
}
