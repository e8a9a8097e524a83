use Rattle.tap_reader.proofs.LawLemmas.{one_tree_proof}
use Rattle.tap_reader.proofs.laws.one_tree.Goals as goal

pub returns : goal.returns
returns c = one_tree_proof
