use Rattle.artifacts.proofs.LawLemmas.{stays_table}
use Rattle.artifacts.proofs.laws.stays_table.Goals as goal

pub returns : goal.returns
returns c = stays_table
