use Rattle.std.proofs.Common.{arith}
use Rattle.std.proofs.lemmas.Bool.{false≢true}
use Rattle.std.proofs.lemmas.Int.{ints}
use Rattle.request_rules.proofs.judging.is_in_reach.Goals as goal

pub returns-then-end-now-2 : goal.returns-then-end-now-2
returns-then-end-now-2 c = ((λ never. absurd (false≢true never)), (λ reach. absurd (omega (arith, ints, reach.1))))
