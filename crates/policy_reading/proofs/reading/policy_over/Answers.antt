use Rattle.std.proofs.lemmas.Result.{err_from_is_err_and}
use Rattle.policy_reading.specs.Reading.{cycle}
use Rattle.policy_reading.proofs.reading.policy_over.Goals as goal

pub returns-in_err-order-clause-err : goal.returns-in_err-order-clause-err
returns-in_err-order-clause-err c =
    let p = err_from_is_err_and c.from_residual-in_err-order.result c.from_residual-in_err-order.ensures.1 in
    rw (p.1, p.2) (λ n. let (name, least, is) = c.in_err-order.ensures.err n in rw is (cycle name c.requires least))
