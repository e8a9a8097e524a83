use Rattle.inclusion_graph.proofs.LawLemmas.{new_are_one_list}
use Rattle.inclusion_graph.proofs.laws.new_are_one_list.Goals as goal

pub returns : goal.returns
returns c = new_are_one_list
