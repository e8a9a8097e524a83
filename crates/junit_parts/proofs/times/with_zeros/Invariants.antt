use Rattle.std.proofs.Common.{◌≡◌, ◌≤◌, ◌*◌, ◌^◌, min}
use Rattle.junit_parts.proofs.times.with_zeros.Given as goal

abbrev pub invariant-loop : goal.invariant-loop
invariant-loop l = record {
  same : l.number ≡ min 315_576_000_000_000_001 (l.fn.number * 10 ^ l.counter);
  few : l.number ≤ 315_576_000_000_000_001;
}
