use Rattle.hash_chains.proofs.WalkLemmas.{IsAhead, steps_left}
use Rattle.invocations.specs.Hashes.{hash_of}
use Rattle.invocations.specs.Rows.{ids_of}
use Rattle.invocations.proofs.ids.find_id.Given as goal

abbrev pub invariant-loop-next : goal.invariant-loop-next
invariant-loop-next l = IsAhead hash_of (ids_of l.rows) l.id l.next

abbrev pub decreases-loop-next : goal.decreases-loop-next
decreases-loop-next l = steps_left l.next
