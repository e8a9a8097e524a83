use Rattle.std.proofs.Common.{◌≡◌, ◌++◌, take}
use Rattle.name_parts.specs.Escapes.{escaped}
use Rattle.name_parts.proofs.escapes.append_spellings.Given as goal

abbrev pub invariant-loop-byte : goal.invariant-loop-byte
invariant-loop-byte l = l.out.items ≡ l.fn.out.items ++ escaped (take l.byte-index l.bytes)
