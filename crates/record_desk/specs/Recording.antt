-- The code's own words: what a part of a call makes of the book, and is told.
use Rattle.std.specs.Prelude.{◌≡◌, ◌≢◌, ◌⊎◌, ℕ, ℤ, Bool, true, false, List, Option, Result, Ok, Err}
use Rattle.disks.specs.Parts.{Image}
use Rattle.disks.specs.Moments.{AtEachMoment, Told as DiskTold}
use Rattle.result_journal.specs.Journals.{disk_of, is_settled, prepared}
use Rattle.result_journal.specs.declared.journal.Journal.{Journal}
use Rattle.journal_book.specs.Worlds.{HasSettled, HasWorld, Play}
use Rattle.journal_book.specs.Books.{Stands}
use Rattle.journal_book.specs.declared.book.RecordFault.{RecordFault}
use Rattle.journal_book.specs.declared.book.RecordFault.TheVariants.{DiskFailed, Full, Memory as NoMemory}
use Rattle.call_forms.specs.declared.asked.Asked.{Asked}
use Rattle.call_forms.specs.declared.forms.Answer.{Answer}
use Rattle.call_forms.specs.declared.forms.Standin.{Standin}
use Rattle.call_forms.specs.declared.forms.Standin.TheVariants.{Memory, Spent, Unavailable}
use Rattle.call_forms.specs.declared.forms.Told.{Told}
use Rattle.call_forms.specs.declared.forms.Told.TheVariants.{Made, Standin as Instead}
use Rattle.service_machine.specs.RequestDemands.Settings.{Settings}
use Rattle.service_machine.specs.ServiceEffects.Service.{ServiceWorld, empty_service}
use Rattle.service_machine.specs.ServiceCore.Step.{IsTold}

-- What is told where a change couldn't be recorded. That a journal is full can't be told apart from
-- want of memory yet.
abbrev pub standin_of : RecordFault → Standin
standin_of DiskFailed = Unavailable
standin_of (Full end length) = Memory
standin_of NoMemory = Memory

-- A call of which this was told met a failure of the disk.
abbrev pub is_unavailable : Told → Bool
is_unavailable (Made answer) = false
is_unavailable (Instead Unavailable) = true
is_unavailable (Instead Memory) = false
is_unavailable (Instead Spent) = false

-- A change of which this came met a failure of the disk.
abbrev pub has_failed : {T : Type 0} → Result T Standin → Bool
has_failed (Ok done) = false
has_failed (Err Unavailable) = true
has_failed (Err Memory) = false
has_failed (Err Spent) = false

-- The journal's commands lead from the empty world to this one.
abbrev pub StandsFromNothing : {D : Type 0} → (D → Option DiskTold) → Play ServiceWorld
    → ServiceWorld → Journal D → Type 0
StandsFromNothing told plays w journal =
    (commands : List (List ℕ)) × Stands told plays empty_service w journal commands

-- The book stands for the world after, where it stood for the one before. What is to settle was to
-- settle before, with the same world; or its command leads to a world that was tried.
pub record KeepsBook {D : Type 0} (told : D → Option DiskTold) (plays : Play ServiceWorld)
    (w : ServiceWorld) (old : Journal D) (tried : ServiceWorld → Type 0)
    (after : ServiceWorld) (new : Journal D) : Type 0 where
  pub stands : (commands : List (List ℕ)) → Stands told plays empty_service w old commands
      → (more : List (List ℕ)) × Stands told plays empty_service after new more
  pub unsettled : is_settled new ≡ false → (next : ServiceWorld) → plays after (prepared new) next
      → ((is_settled old ≡ false) × (after ≡ w) × plays w (prepared old) next) ⊎ tried next

-- An image has the world before, or, where something was to settle, the one to which its command
-- leads; or a world that was tried.
abbrev pub HasWorldOrTried : {D : Type 0} → Play ServiceWorld → ServiceWorld → Journal D
    → (ServiceWorld → Type 0) → Image → Type 0
HasWorldOrTried plays w old tried image =
    HasSettled plays empty_service w (is_settled old) (prepared old) image
    ⊎ ((next : ServiceWorld) × HasWorld plays empty_service next image × tried next)

-- So it is at each moment from the disk of one journal to that of the other.
abbrev pub TriesAtMost : {D : Type 0} → (D → Option DiskTold) → Play ServiceWorld → ServiceWorld
    → Journal D → (ServiceWorld → Type 0) → Journal D → Type 0
TriesAtMost told plays w old tried new =
    AtEachMoment (told (disk_of old)) (told (disk_of new)) (HasWorldOrTried plays w old tried)

-- What a request was told at a moment at which nothing is due. Where the disk failed, its step
-- would have changed the world.
abbrev pub IsToldBy : Settings → ServiceWorld → ℤ → Asked → Told → ServiceWorld → Type 0
IsToldBy s w moment asked (Made answer) after = IsTold s w moment asked after answer
IsToldBy s w moment asked (Instead Memory) after = after ≡ w
IsToldBy s w moment asked (Instead Unavailable) after =
    (after ≡ w)
    × ((next : ServiceWorld) × (answer : Answer) × IsTold s w moment asked next answer × next ≢ w)
IsToldBy s w moment asked (Instead Spent) after = ⊥
