-- The code's own word: what led from a desk's start to the book and the clock that come back.
use Rattle.std.specs.Prelude.{ℕ, ℤ, List, Option}
use Rattle.disks.specs.Moments.{Told as DiskTold}
use Rattle.result_journal.specs.declared.journal.Journal.{Journal}
use Rattle.service_desk.specs.ServiceEffects.Service.{ServiceWorld}
use Rattle.service_desk.specs.ServiceCore.History.{Entry}
use Rattle.service_desk.specs.ServiceCore.Service.{service_of}
use Rattle.service_desk.specs.ServiceMachine.Machines.{Plays}
use Rattle.service_desk.specs.RecordDesk.Standing.{HasRecorded}
use Rattle.service_desk.specs.Shelves.{service_on}
use Rattle.service_desk.specs.declared.shelf.Shelf.{Shelf}

-- This history led from a shelf to this world, this clock and this journal, under the shelf's
-- policy.
abbrev pub WentThrough : {D C S : Type 0} → (D → Option DiskTold) → (D → ℕ)
    → (C → List ℤ → Type 0) → Shelf D C S → List Entry → ServiceWorld → C → Journal D → Type 0
WentThrough told faults tells start log w clock journal =
    HasRecorded told faults Plays (service_on start) (tells start.clock) start.book.journal log
    (service_of (service_on start).settings w) (tells clock) journal
