use Rattle.test_results.specs.Batches.{AreFree, given}
use Rattle.service_effects.proofs.batches.first_taken.Given as goal

abbrev pub invariant-loop-at : goal.invariant-loop-at
invariant-loop-at l = AreFree l.results.rows (given l.holder l.rows) l.at
