-- A service's book and its clock, as a history leads them on.
use Rattle.std.specs.Prelude.{◌≡◌, ◌⊎◌, ℕ, ℤ, true, false, List, ◌++◌, ◌∷◌, [], Option, length}
use Rattle.disks.specs.Moments.{Told as DiskTold}
use Rattle.result_journal.specs.Journals.{is_settled}
use Rattle.result_journal.specs.declared.journal.Journal.{Journal}
use Rattle.journal_book.specs.Books.{Stands}
use Rattle.call_forms.specs.declared.forms.Answer.{Answer}
use Rattle.call_forms.specs.declared.forms.Standin.TheVariants.{Memory}
use Rattle.call_forms.specs.declared.forms.Told.TheVariants.{Made, Standin as Instead}
use Rattle.record_desk.specs.RequestDemands.Settings.{Settings}
use Rattle.record_desk.specs.ServiceEffects.Service.{ServiceWorld, empty_service}
use Rattle.record_desk.specs.ServiceCore.CoreState.{world_in}
use Rattle.record_desk.specs.ServiceCore.History.{Entry, IsLegal, Leads}
use Rattle.record_desk.specs.ServiceCore.Service.{Service, service_of}
use Rattle.record_desk.specs.ServiceCore.Step.{Step}
use Rattle.record_desk.specs.ServiceMachine.Machines.{Plays}
use Rattle.record_desk.specs.Standing.{HasRecorded}
use Rattle.service_desk.specs.declared.shelf.Shelf.{Shelf}

-- the service of a shelf: its policy, and the world of its book
abbrev pub service_on : {D C S : Type 0} → Shelf D C S → Service
service_on shelf =
    service_of (record { policy = shelf.policy.value }) (world_in shelf.book.machine.core)

-- A book was opened: its journal's commands lead from the empty world to this one, and nothing is
-- to settle.
pub record IsOpened {D : Type 0} (told : D → Option DiskTold) (w : ServiceWorld)
    (journal : Journal D) : Type 0 where
  pub commands : List (List ℕ)
  pub stands : Stands told Plays empty_service w journal commands
  pub settled : is_settled journal ≡ true

-- The book of a shelf was.
abbrev pub OpensShelf : {D C S : Type 0} → (D → Option DiskTold) → Shelf D C S → Type 0
OpensShelf told shelf = IsOpened told (service_on shelf).world shelf.book.journal

-- From one shelf to another led this history.
abbrev pub Led : {D C S : Type 0} → (D → Option DiskTold) → (D → ℕ) → (C → List ℤ → Type 0)
    → Shelf D C S → List Entry → Shelf D C S → Type 0
Led told faults tells start log now =
    HasRecorded told faults Plays (service_on start) (tells start.clock) start.book.journal log
    (service_on now) (tells now.clock) now.book.journal

-- It led to some shelf.
abbrev pub LedSomewhere : {D C S : Type 0} → (D → Option DiskTold) → (D → ℕ)
    → (C → List ℤ → Type 0) → Shelf D C S → List Entry → Type 0
LedSomewhere {D} {C} {S} told faults tells start log =
    (now : Shelf D C S) × Led told faults tells start log now

-- A shelf counts the entries of a history, which led to it from a start whose book was opened.
pub record StandsFor {D C S : Type 0} (told : D → Option DiskTold) (faults : D → ℕ)
    (tells : C → List ℤ → Type 0) (now start : Shelf D C S) (log : List Entry) : Type 0 where
  pub counted : now.entries ≡ length log
  pub led : OpensShelf told start → Led told faults tells start log now

-- The last entry of a history leads on from where those before it led. Where the disk didn't fail
-- in its call, the answer of its step was told, or want of memory.
pub record IsLast (s : Settings) (first : ServiceWorld) (log : List Entry) (e : Entry)
    : Type 0 where
  pub from : ServiceWorld
  pub legal : IsLegal s first log from
  pub to : ServiceWorld
  pub leads : Leads s from e to
  pub complete : e.rose ≡ false → (e.told ≡ Instead Memory)
      ⊎ ((answer : Answer) × (e.told ≡ Made answer) × Step s from e.moment e.asked to answer)

-- An entry goes on from a history of a desk that began with this shelf.
pub record GoesOn {D C S : Type 0} (told : D → Option DiskTold) (faults : D → ℕ)
    (tells : C → List ℤ → Type 0) (start : Shelf D C S) (log : List Entry) (e : Entry)
    : Type 0 where
  pub before : LedSomewhere told faults tells start log
  pub after : LedSomewhere told faults tells start (log ++ e ∷ [])
  pub last : IsLast (service_on start).settings (service_on start).world log e
