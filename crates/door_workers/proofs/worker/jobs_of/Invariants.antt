use Rattle.std.proofs.Common.{◌≡◌, ◌++◌, map, vec_len}
use Rattle.std.specs.Prelude.{vec_capacity}
use Rattle.door_workers.specs.Workers.{job_of}
use Rattle.door_workers.proofs.worker.jobs_of.Given as goal

abbrev pub invariant-loop-door : goal.invariant-loop-door
invariant-loop-door g l = record {
  can : (goal.iterator-loop-door g).can_next l.door-iterator;
  finite : (goal.iterator-loop-door g).is_finite l.door-iterator;
  jobs : l.jobs.items ≡ map job_of l.yielded;
  whole : l.fn.workers.items ≡ l.yielded ++ l.door-iterator.rest.items;
  room : vec_capacity l.jobs ≡ vec_len l.fn.workers;
}
