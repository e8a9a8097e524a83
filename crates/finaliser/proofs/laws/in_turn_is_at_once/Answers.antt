use Rattle.finaliser.proofs.LawLemmas.{in_turn_is_at_once}
use Rattle.finaliser.proofs.laws.in_turn_is_at_once.Goals as goal

pub returns : goal.returns
returns c = in_turn_is_at_once
