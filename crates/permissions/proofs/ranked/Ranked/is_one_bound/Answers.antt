use Rattle.permissions.proofs.GraphLemmas.{has_of}
use Rattle.permissions.proofs.ranked.Ranked.is_one_bound.Goals as goal

pub is_bound-requires-clause-come : goal.is_bound-requires-clause-come
is_bound-requires-clause-come c = c.requires.come _ (has_of c.args.ranks.now c.loop-rank.rank-index c.loop-rank-test.true)
