use Rattle.test_results.proofs.LawLemmas.{rows_stay}
use Rattle.test_results.proofs.laws.rows_stay.Goals as goal

pub returns : goal.returns
returns c = rows_stay
