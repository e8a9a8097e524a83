use Rattle.std.proofs.Common.{set, sym, ap, ◌∙◌}
use Rattle.std.proofs.lemmas.List.Edits.{map_over_more}
use Rattle.test_results.specs.declared.result.TestResult.{TestResult}
use Rattle.test_results.specs.Batches.{with_holder}
use Rattle.test_results.proofs.result_rows.give.Goals as goal

pub loop-at-preserved : goal.loop-at-preserved
loop-at-preserved c =
    ap (λ (r : TestResult). set c.loop-at.rows c.loop-at.at (with_holder c.args.holder r)) (sym c.index-rows-at.is)
    ∙ map_over_more (with_holder c.args.holder) c.args.rows.now c.loop-at.rows c.loop-at.at c.index-rows-at.result c.loop-at-test.true c.loop-at.invariant c.index-rows-at.is
