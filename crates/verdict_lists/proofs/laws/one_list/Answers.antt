use Rattle.verdict_lists.proofs.LawLemmas.{one_list_is}
use Rattle.verdict_lists.proofs.laws.one_list.Goals as goal

pub returns : goal.returns
returns c = one_list_is
