use Rattle.std.proofs.Common.{set, sym, ap, ◌∙◌}
use Rattle.std.proofs.lemmas.List.Edits.{map_over_more}
use Rattle.artifacts.specs.declared.artifact.Artifact.{Artifact}
use Rattle.artifacts.specs.Batches.{with_holder}
use Rattle.artifacts.proofs.new_artifact.give.Goals as goal

pub loop-at-preserved : goal.loop-at-preserved
loop-at-preserved c =
    ap (λ (r : Artifact). set c.loop-at.rows c.loop-at.at (with_holder c.args.holder r)) (sym c.index-rows-at.is)
    ∙ map_over_more (with_holder c.args.holder) c.args.rows.now c.loop-at.rows c.loop-at.at c.index-rows-at.result c.loop-at-test.true c.loop-at.invariant c.index-rows-at.is
