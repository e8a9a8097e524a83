use Rattle.std.proofs.Common.{arith}
use Rattle.field_kinds.proofs.NumberLaws.{bytes_written}
use Rattle.field_kinds.proofs.numbers.ByteSizeNumberRule.write.Goals as goal

pub returns-clause-again : goal.returns-clause-again
returns-clause-again c = λ few. bytes_written 9223372036854775807 c.args.number few (omega (arith, few))
