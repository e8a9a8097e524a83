use Rattle.hash_chains.proofs.WalkLemmas.{IsAhead, steps_left}
use Rattle.test_results.specs.Hashes.{hash_of}
use Rattle.test_results.specs.Results.{keys_of, named}
use Rattle.test_results.proofs.key_places.find_key.Given as goal

abbrev pub invariant-loop-next : goal.invariant-loop-next
invariant-loop-next l = IsAhead hash_of (keys_of l.rows) (named l.holder l.test l.id) l.next

abbrev pub decreases-loop-next : goal.decreases-loop-next
decreases-loop-next l = steps_left l.next
