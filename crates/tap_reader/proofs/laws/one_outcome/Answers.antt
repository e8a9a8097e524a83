use Rattle.tap_reader.proofs.LawLemmas.{one_outcome_proof}
use Rattle.tap_reader.proofs.laws.one_outcome.Goals as goal

pub returns : goal.returns
returns c = one_outcome_proof
