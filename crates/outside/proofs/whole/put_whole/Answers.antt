use Rattle.std.proofs.Common.{◌∙◌, ap, Err}
use Rattle.std.proofs.lemmas.Result.{err_from_is_err_and}
use Rattle.outside.proofs.Progress.{one_more, whole, failed, stalled}
use Rattle.outside.proofs.whole.put_whole.Goals as goal

pub returns-in_err-count : goal.returns-in_err-count
returns-in_err-count g c =
    let p = err_from_is_err_and c.from_residual.result c.from_residual.ensures.1 in
    failed _ _ _ _ _ _ _ c.loop-rest.invariant c.in_err-count.ensures.write (p.1 ∙ ap Err p.2)

pub returns-then-count-eq0 : goal.returns-then-count-eq0
returns-then-count-eq0 g c =
    stalled _ _ _ _ _ _ _ c.loop-rest.invariant c.in_ok-count.ensures.write c.if-count-eq0.true c.is_empty.ensures c.loop-rest-test.true

pub loop-rest-preserved : goal.loop-rest-preserved
loop-rest-preserved g c =
    rw c.after-rest.ensures (one_more _ _ _ _ _ _ c.loop-rest.invariant c.in_ok-count.ensures.write c.if-count-eq0.false)

pub returns : goal.returns
returns g c = whole _ _ _ _ _ _ c.loop-rest.invariant c.is_empty.ensures c.loop-rest-test.false
