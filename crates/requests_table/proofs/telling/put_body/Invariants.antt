use Rattle.std.proofs.Common.{◌≡◌, ◌++◌, take}
use Rattle.requests_table.specs.Telling.{body_text}
use Rattle.requests_table.proofs.telling.put_body.Given as goal

abbrev pub invariant-loop-byte : goal.invariant-loop-byte
invariant-loop-byte l = l.out.items ≡ l.initial.out.items ++ body_text (take l.byte-index l.body)
