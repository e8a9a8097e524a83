use Rattle.std.proofs.Common.{◌≡◌, ◌≤◌}
use Rattle.junit_parts.specs.Messages.{boundary}
use Rattle.junit_reader.proofs.messages.boundary.Given as goal

abbrev pub invariant-loop-at : goal.invariant-loop-at
invariant-loop-at l = record {
  within : l.at ≤ 1024;
  same : boundary l.at l.bytes ≡ boundary 1024 l.bytes;
}

abbrev pub decreases-loop-at : goal.decreases-loop-at
decreases-loop-at l = l.at
