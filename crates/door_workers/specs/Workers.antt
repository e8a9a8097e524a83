-- Workers, each with a door and a teller of its own.
use Rattle.std.specs.Prelude.{◌≡◌, List, ◌++◌}
use Rattle.std.specs.Borrow.{GName}
use Rattle.outside.specs.Ends.{Ends}
use Rattle.dialers.specs.Dials.{Dials}
use Rattle.tellers.specs.Exchange.{Exchange, StandsForSome}
use Rattle.door_workers.specs.Tallies.{nothing_counted}
use Rattle.door_workers.specs.Work.{ServesDoor}
use Rattle.door_workers.specs.declared.worker.Worker.{Worker}
use Rattle.door_workers.specs.declared.worker.Worked.{Worked}

-- Between one state of a teller and another it was asked just these exchanges: where it stood for
-- some before them, it now stands for those and these.
abbrev pub WasAsked : {T : Type 0} → (T → T → List Exchange → Type 0) → T → T → List Exchange
    → Type 0
WasAsked {T} stands old new exchanges =
    (first : T) (before : List Exchange) → stands first old before
    → stands first new (before ++ exchanges)

-- a worker before its work, which has counted nothing
abbrev pub job_of : {A T : Type 0} → Worker A T → Worked A T
job_of worker = record { door = worker.door; teller = worker.teller; tally = nothing_counted }

-- the worker that a job is of
abbrev pub worker_of : {A T : Type 0} → Worked A T → Worker A T
worker_of job = record { door = job.door; teller = job.teller }

-- A worker served its own door, and asked its own teller, which stands for something again.
pub record IsWorked {A T L : Type 0} (tells : A → Dials L) (ends : L → Ends)
    (link_holds : L → List GName) (stands : T → T → List Exchange → Type 0)
    (teller_holds : T → List GName) (before : Worker A T) (after : Worked A T) : Type 0 where
  pub serves : ServesDoor ends link_holds (WasAsked stands before.teller after.teller)
      (tells before.door) after.tally (tells after.door)
  pub holds : teller_holds after.teller ≡ teller_holds before.teller
  pub stands_again : StandsForSome stands after.teller
