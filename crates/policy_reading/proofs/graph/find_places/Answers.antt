use Rattle.std.proofs.Common.{arith}
use Rattle.permissions.proofs.GraphLemmas.{has_of}
use Rattle.policy_reading.proofs.graph.find_places.Goals as goal

pub find_place-requires-clause-within : goal.find_place-requires-clause-within
find_place-requires-clause-within c = rw c.loop-i.invariant.len (c.requires.within _ (has_of c.args.places.now c.loop-i.i (omega arith)))
