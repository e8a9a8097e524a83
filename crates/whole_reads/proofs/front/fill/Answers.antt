use Rattle.std.proofs.Common.{◌∙◌, refl, arith, ap, Err}
use Rattle.std.proofs.lemmas.Result.{err_from_is_err_and}
use Rattle.whole_reads.proofs.Filling.{filling_none, filling_more, ends_same, filled_end, filled_fault, filled_all}
use Rattle.whole_reads.proofs.front.fill.Goals as goal

pub loop-at-init : goal.loop-at-init
loop-at-init g c = record { filling = filling_none _ _ _ (omega arith); ends = refl }

pub loop-at-preserved : goal.loop-at-preserved
loop-at-preserved g c = record {
  filling = filling_more _ _ _ _ _ _ _ _ _ c.loop-at.invariant.filling c.in_ok-count.ensures;
  ends = ends_same _ _ _ _ _ _ _ c.loop-at.invariant.ends c.in_ok-count.ensures c.if-count-eq0.false;
}

pub returns-in_err-count : goal.returns-in_err-count
returns-in_err-count g c =
    let p = err_from_is_err_and c.from_residual.result c.from_residual.ensures.1 in
    filled_fault _ _ _ _ _ _ _ _ _ _ c.loop-at.invariant.filling c.loop-at.invariant.ends (omega arith) c.in_err-count.ensures (p.1 ∙ ap Err p.2)

pub returns-then-count-eq0 : goal.returns-then-count-eq0
returns-then-count-eq0 g c = filled_end _ _ _ _ _ _ _ _ _ c.loop-at.invariant.filling c.loop-at.invariant.ends (omega arith) c.in_ok-count.ensures c.if-count-eq0.true

pub returns : goal.returns
returns g c = filled_all _ _ _ _ _ _ c.loop-at.invariant.filling c.loop-at.invariant.ends (omega arith)
