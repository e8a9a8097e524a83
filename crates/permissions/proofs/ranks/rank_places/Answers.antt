use Rattle.std.proofs.Common.{[], get_or}
use Rattle.permissions.proofs.GraphLemmas.{has_of}
use Rattle.permissions.proofs.RankLemmas.{laid_at}
use Rattle.permissions.proofs.ranks.rank_places.Goals as goal

pub add_place-requires-clause-within : goal.add_place-requires-clause-within
add_place-requires-clause-within c =
    let order = c.args.order.now in
    c.requires.within (get_or order c.loop-place.place-index 0) (has_of order c.loop-place.place-index c.loop-place-test.true)

pub add_place-requires-clause-known : goal.add_place-requires-clause-known
add_place-requires-clause-known c =
    λ q e. c.loop-place.invariant.known q (laid_at c.args.graph.now [] c.args.order.now c.loop-place.place-index q c.requires.laid c.loop-place-test.true e)
