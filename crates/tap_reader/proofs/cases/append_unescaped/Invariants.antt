use Rattle.std.proofs.Common.{◌≡◌, ◌++◌, length}
use Rattle.tap_reader.specs.Cases.{unescaped}
use Rattle.tap_reader.proofs.cases.append_unescaped.Given as goal

abbrev pub invariant-loop-rest : goal.invariant-loop-rest
invariant-loop-rest l = l.out.items ++ unescaped l.rest ≡ l.fn.out.items ++ unescaped l.text

abbrev pub decreases-loop-rest : goal.decreases-loop-rest
decreases-loop-rest l = length l.rest
