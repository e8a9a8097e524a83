use Rattle.std.proofs.Common.{◌≡◌, ◌≤◌, length, take}
use Rattle.junit_parts.specs.Messages.{solid_len}
use Rattle.junit_reader.proofs.messages.solid_len.Given as goal

abbrev pub invariant-loop-at : goal.invariant-loop-at
invariant-loop-at l = record {
  within : l.at ≤ length l.bytes;
  same : solid_len (take l.at l.bytes) ≡ solid_len l.bytes;
}

abbrev pub decreases-loop-at : goal.decreases-loop-at
decreases-loop-at l = l.at
