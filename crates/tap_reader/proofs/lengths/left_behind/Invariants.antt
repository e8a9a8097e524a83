use Rattle.std.proofs.Common.{◌≡◌, ◌+◌, drop}
use Rattle.std.specs.List.{sum}
use Rattle.tap_reader.proofs.lengths.left_behind.Given as goal

abbrev pub invariant-loop-len : goal.invariant-loop-len
invariant-loop-len l = l.rest + (sum l.parents + l.own) ≡ l.left + sum (drop l.len-index l.parents)
