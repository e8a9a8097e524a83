use Rattle.artifacts.proofs.LawLemmas.{rows_stay}
use Rattle.artifacts.proofs.laws.rows_stay.Goals as goal

pub returns : goal.returns
returns c = rows_stay
