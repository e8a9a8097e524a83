use Rattle.std.proofs.Common.{◌≡◌, ◌++◌, map}
use Rattle.std.specs.Prelude.{vec_capacity}
use Rattle.door_workers.specs.Workers.{worker_of}
use Rattle.served_desk.specs.Posts.{sum_of}
use Rattle.served_desk.proofs.sums.summed.Given as goal

abbrev pub invariant-loop-door : goal.invariant-loop-door
invariant-loop-door g l = record {
  can : (goal.iterator-loop-door g).can_next l.door-iterator;
  finite : (goal.iterator-loop-door g).is_finite l.door-iterator;
  workers : l.workers.items ≡ map worker_of l.yielded;
  sum : l.sum ≡ sum_of (map (λ w. w.tally) l.yielded);
  whole : l.fn.worked.items ≡ l.yielded ++ l.door-iterator.rest.items;
  room : vec_capacity l.workers ≡ vec_capacity l.fn.room;
}
