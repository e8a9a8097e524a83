use Rattle.std.proofs.Common.{◌∙◌, ap, Err}
use Rattle.std.proofs.lemmas.Result.{err_from_is_err_and}
use Rattle.outside.proofs.Progress.{one_more, whole, failed, stalled}
use Rattle.outside.proofs.whole.write_whole.Goals as goal

pub returns-in_err-count-clause-written : goal.returns-in_err-count-clause-written
returns-in_err-count-clause-written g c =
    let p = err_from_is_err_and c.from_residual.result c.from_residual.ensures.1 in
    failed _ _ _ _ _ _ _ c.loop-rest.invariant.took c.in_err-count.ensures.write (p.1 ∙ ap Err p.2)

pub returns-then-count-eq0-clause-written : goal.returns-then-count-eq0-clause-written
returns-then-count-eq0-clause-written g c =
    stalled _ _ _ _ _ _ _ c.loop-rest.invariant.took c.in_ok-count.ensures.write c.if-count-eq0.true c.is_empty.ensures c.loop-rest-test.true

pub loop-rest-preserved : goal.loop-rest-preserved
loop-rest-preserved g c = record {
  took = rw c.after-rest.ensures
      (one_more _ _ _ _ _ _ c.loop-rest.invariant.took c.in_ok-count.ensures.write c.if-count-eq0.false);
  only = c.in_ok-count.ensures.only ∙ c.loop-rest.invariant.only;
  holds = c.in_ok-count.ensures.holds ∙ c.loop-rest.invariant.holds;
}

pub returns-clause-written : goal.returns-clause-written
returns-clause-written g c = whole _ _ _ _ _ _ c.loop-rest.invariant.took c.is_empty.ensures c.loop-rest-test.false
