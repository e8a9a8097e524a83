use Rattle.std.proofs.Common.{◌≡◌, take, drop}
use Rattle.junit_parts.specs.Bytes.{parted_at}
use Rattle.junit_parts.proofs.ByteLemmas.{put_before}
use Rattle.junit_parts.proofs.bytes.parted_at.Given as goal

abbrev pub invariant-loop-at : goal.invariant-loop-at
invariant-loop-at l = parted_at l.mark l.bytes ≡ put_before (take l.at l.bytes) (parted_at l.mark (drop l.at l.bytes))
