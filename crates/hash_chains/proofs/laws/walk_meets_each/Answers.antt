use Rattle.hash_chains.proofs.WalkLemmas.{walk_meets_each}
use Rattle.hash_chains.proofs.laws.walk_meets_each.Goals as goal

pub returns : goal.returns
returns c = walk_meets_each
