use Rattle.test_results.proofs.LawLemmas.{stays_table}
use Rattle.test_results.proofs.laws.stays_table.Goals as goal

pub returns : goal.returns
returns c = stays_table
