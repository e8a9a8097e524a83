use Rattle.std.proofs.Common.{sym, ◌∙◌}
use Rattle.service_effects.proofs.FileFacts.{free_here, taken_here}
use Rattle.service_effects.proofs.artifact_batches.first_taken.Goals as goal

pub returns-then-is_some : goal.returns-then-is_some
returns-then-is_some c =
    taken_here c.args.table.now.rows c.args.rows.now c.args.holder c.loop-at.at c.index-rows-at.result c.find.result c.loop-at-test.true
    c.index-rows-at.is (sym c.is_some.ensures ∙ c.if-is_some.true) c.find.ensures c.loop-at.invariant

pub loop-at-preserved : goal.loop-at-preserved
loop-at-preserved c =
    free_here c.args.table.now.rows c.args.rows.now c.args.holder c.loop-at.at c.index-rows-at.result c.find.result c.loop-at-test.true
    c.index-rows-at.is (sym c.is_some.ensures ∙ c.if-is_some.false) c.find.ensures c.loop-at.invariant
