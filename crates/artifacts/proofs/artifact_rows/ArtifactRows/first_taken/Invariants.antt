use Rattle.artifacts.specs.Batches.{AreFree}
use Rattle.artifacts.proofs.artifact_rows.ArtifactRows.first_taken.Given as goal

abbrev pub invariant-loop-at : goal.invariant-loop-at
invariant-loop-at l = AreFree l.self.rows l.batch l.at
