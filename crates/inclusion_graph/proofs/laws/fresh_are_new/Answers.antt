use Rattle.inclusion_graph.proofs.LawLemmas.{fresh_are_new}
use Rattle.inclusion_graph.proofs.laws.fresh_are_new.Goals as goal

pub returns : goal.returns
returns c = fresh_are_new
