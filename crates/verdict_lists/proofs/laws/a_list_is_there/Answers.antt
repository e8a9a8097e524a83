use Rattle.verdict_lists.proofs.ThereLemmas.{has_list_is}
use Rattle.verdict_lists.proofs.laws.a_list_is_there.Goals as goal

pub returns : goal.returns
returns c = has_list_is
