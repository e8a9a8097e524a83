use Rattle.std.proofs.Common.{drop, sym, ap, ◌∙◌}
use Rattle.sink_plans.proofs.PlanLemmas.{next_batch, next_left}
use Rattle.sink_plans.proofs.batches.batches_of.Goals as goal

pub loop-others-preserved : goal.loop-others-preserved
loop-others-preserved c =
    let naming = c.args.naming.now in
    let cases = c.args.cases.items in
    let others = c.loop-others.others in
    record {
      batches = rw (c.in_ok-push.ensures.items, c.in_ok-take_batch.ensures.batch, c.loop-others.invariant.left, c.loop-others.invariant.batches) (sym (next_batch naming.digest naming.prefix.now cases others));
      left = c.in_ok-take_batch.ensures.rest ∙ ap (drop 200) c.loop-others.invariant.left ∙ next_left cases others;
    }
