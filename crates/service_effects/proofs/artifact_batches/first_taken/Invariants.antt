use Rattle.artifacts.specs.Batches.{AreFree, given}
use Rattle.service_effects.proofs.artifact_batches.first_taken.Given as goal

abbrev pub invariant-loop-at : goal.invariant-loop-at
invariant-loop-at l = AreFree l.table.rows (given l.holder l.rows) l.at
