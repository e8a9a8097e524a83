use Rattle.std.proofs.Common.{◌≡◌, ◌*◌, ◌≤◌, take, length}
use Rattle.name_parts.specs.Escapes.{escaped}
use Rattle.name_parts.proofs.escapes.escaped_len.Given as goal

abbrev pub invariant-loop-byte : goal.invariant-loop-byte
invariant-loop-byte l = (l.len ≡ length (escaped (take l.byte-index l.bytes))) × (l.len ≤ 3 * l.byte-index)
