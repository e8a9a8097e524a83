use Rattle.tap_reader.proofs.LawLemmas.{some_outcome_proof}
use Rattle.tap_reader.proofs.laws.some_outcome.Goals as goal

pub returns : goal.returns
returns c = some_outcome_proof
