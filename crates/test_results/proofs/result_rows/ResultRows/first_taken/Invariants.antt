use Rattle.test_results.specs.Batches.{AreFree}
use Rattle.test_results.proofs.result_rows.ResultRows.first_taken.Given as goal

abbrev pub invariant-loop-at : goal.invariant-loop-at
invariant-loop-at l = AreFree l.self.rows l.batch l.at
