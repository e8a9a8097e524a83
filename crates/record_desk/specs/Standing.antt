-- What a service, its clock and its disk went through.
use Rattle.std.specs.Prelude.{◌≡◌, ◌⊎◌, ℕ, ◌≤◌, ℤ, Bool, true, false, List, [], ◌∷◌, ◌++◌, map, Option}
use Rattle.std.specs.List.{AllByRecursion}
use Rattle.fault_counts.specs.Causes.{Rose}
use Rattle.disks.specs.Parts.{Image}
use Rattle.disks.specs.Moments.{AtEachMoment, Told}
use Rattle.result_journal.specs.Journals.{disk_of, is_settled, prepared}
use Rattle.result_journal.specs.declared.journal.Journal.{Journal}
use Rattle.journal_book.specs.Worlds.{HasWorld, Play}
use Rattle.journal_book.specs.Books.{Stands}
use Rattle.call_forms.specs.declared.forms.Answer.{Answer}
use Rattle.call_forms.specs.declared.forms.Standin.TheVariants.{Unavailable}
use Rattle.call_forms.specs.declared.forms.Told.TheVariants.{Standin as Instead}
use Rattle.invocation_world.specs.Advancing.{IsDueAt}
use Rattle.service_machine.specs.RequestDemands.Settings.{Settings}
use Rattle.service_machine.specs.ServiceEffects.Service.{ServiceWorld, empty_service}
use Rattle.service_machine.specs.ServiceCore.History.{Entry, IsLegal, IsTimed, Leads}
use Rattle.service_machine.specs.ServiceCore.Service.{CatchesUp, Service}
use Rattle.service_machine.specs.ServiceCore.Step.{Step}
use Rattle.record_desk.specs.Clocked.{IsClocked}
use Rattle.tellers.specs.Exchange.{Exchange}

-- what was asked and told in an entry
abbrev pub exchange_of : Entry → Exchange
exchange_of e = record { asked = e.asked; told = e.told }

-- A count of faults that rose, or stays.
abbrev pub RoseIf : Bool → ℕ → ℕ → Type 0
RoseIf true before after = (before ≤ after) × Rose before after
RoseIf false before after = after ≡ before

-- The disk's count of faults rose in each call whose entry says so, and stays in the others.
abbrev pub Rises : ℕ → List Entry → ℕ → Type 0
Rises before [] after = after ≡ before
Rises before (e ∷ h) after =
    (between : ℕ) × RoseIf e.rose before between × Rises between h after

-- From the one to the other led this history, at the moments that the clock's answers make, one
-- answer for each entry.
pub record GoesThrough (before : Service) (tells_before : List ℤ → Type 0) (faults_before : ℕ)
    (history : List Entry)
    (after : Service) (tells_after : List ℤ → Type 0) (faults_after : ℕ) : Type 0 where
  pub answers : List ℤ
  pub timed : IsTimed before.settings before.world history answers after.world
  pub settings : after.settings ≡ before.settings
  pub clocked : IsClocked tells_before answers tells_after
  pub rises : Rises faults_before history faults_after

-- From the one to the other led a history of one seat, an entry for each exchange, in order.
pub record Moves (before : Service) (tells_before : List ℤ → Type 0) (faults_before : ℕ)
    (exchanges : List Exchange)
    (after : Service) (tells_after : List ℤ → Type 0) (faults_after : ℕ) : Type 0 where
  pub history : List Entry
  pub exchanges_are : exchanges ≡ map exchange_of history
  pub seats : AllByRecursion (λ e. e.seat ≡ 0) history
  pub goes : GoesThrough before tells_before faults_before history after tells_after faults_after

-- What there was to record of an entry leads to this world: that due deadlines are carried out, or
-- all of its step.
abbrev pub IsTried : Settings → ServiceWorld → Entry → ServiceWorld → Type 0
IsTried s w e next =
    (IsDueAt w.rows e.moment × CatchesUp w e.moment next)
    ⊎ ((answer : Answer) × Step s w e.moment e.asked next answer)

-- An entry of the history was told Unavailable, none after it changed the world, and what there was
-- to record of it leads to this world.
pub record MayStand (s : Settings) (first : ServiceWorld) (history : List Entry)
    (w next : ServiceWorld) : Type 0 where
  pub before : List Entry
  pub entry : Entry
  pub later : List Entry
  pub history_is : history ≡ before ++ entry ∷ later
  pub told : entry.told ≡ Instead Unavailable
  pub from : ServiceWorld
  pub led : IsLegal s first before from
  pub came : Leads s from entry w
  pub still : AllByRecursion (λ e. Leads s w e w) later
  pub tried : IsTried s from entry next

-- The journal's commands lead from the empty world to this one. Where something is to settle, the
-- command whose append failed is of an entry that was told Unavailable.
pub record HasBook {D : Type 0} (told : D → Option Told) (plays : Play ServiceWorld) (s : Settings)
    (first : ServiceWorld) (history : List Entry) (w : ServiceWorld) (journal : Journal D)
    : Type 0 where
  pub commands : List (List ℕ)
  pub stands : Stands told plays empty_service w journal commands
  pub failed : is_settled journal ≡ false → (next : ServiceWorld)
      → plays w (prepared journal) next → MayStand s first history w next

-- An image has the world that the history led to; or the one to which leads what there was to
-- record of an entry that was told Unavailable, after which none changed the world.
abbrev pub HasLast : Play ServiceWorld → Settings → ServiceWorld → List Entry → ServiceWorld
    → Image → Type 0
HasLast plays s first history w image =
    HasWorld plays empty_service w image
    ⊎ ((next : ServiceWorld) × HasWorld plays empty_service next image
    × MayStand s first history w next)

-- An image has a world to which leads what there is to record of an entry.
abbrev pub HasTried : Play ServiceWorld → Settings → ServiceWorld → Entry → Image → Type 0
HasTried plays s w e image =
    (next : ServiceWorld) × HasWorld plays empty_service next image × IsTried s w e next

-- A point of a history: the entries up to it, the world that they led to, and what the disk tells
-- there.
pub record Point : Type 0 where
  pub entries : List Entry
  pub world : ServiceWorld
  pub disk : Option Told

abbrev pub point_at : List Entry → ServiceWorld → Option Told → Point
point_at entries w told = record { entries = entries; world = w; disk = told }

-- The call of an entry led from one point to the next. At each moment inside it an image has what
-- the entries before left, or a world to which leads what there is to record of this one.
pub record AtCall (plays : Play ServiceWorld) (first : Service) (here : Point) (e : Entry)
    (next : Point) : Type 0 where
  pub entries : next.entries ≡ here.entries ++ e ∷ []
  pub leads : Leads first.settings here.world e next.world
  pub moments : AtEachMoment here.disk next.disk
      (λ image. HasLast plays first.settings first.world here.entries here.world image
      ⊎ HasTried plays first.settings here.world e image)

-- So did the call of each entry of a history, one after the other.
abbrev pub AtEachCall : Play ServiceWorld → Service → Point → List Entry → Point → Type 0
AtEachCall plays first here [] end = end ≡ here
AtEachCall plays first here (e ∷ h) end =
    (next : Point) × AtCall plays first here e next × AtEachCall plays first next h end

-- So a service, its clock and its journal went on by a history of any seats, the journal having
-- stood at the start.
pub record HasRecorded {D : Type 0} (told : D → Option Told) (faults : D → ℕ)
    (plays : Play ServiceWorld)
    (before : Service) (tells_before : List ℤ → Type 0) (first : Journal D)
    (history : List Entry)
    (after : Service) (tells_after : List ℤ → Type 0) (journal : Journal D) : Type 0 where
  pub goes : GoesThrough before tells_before (faults (disk_of first)) history
      after tells_after (faults (disk_of journal))
  pub book : HasBook told plays before.settings before.world history after.world journal
  pub moments : AtEachCall plays before (point_at [] before.world (told (disk_of first))) history
      (point_at history after.world (told (disk_of journal)))

-- So they went on by the exchanges of one seat.
pub record HasServed {D : Type 0} (told : D → Option Told) (faults : D → ℕ)
    (plays : Play ServiceWorld)
    (before : Service) (tells_before : List ℤ → Type 0) (first : Journal D)
    (exchanges : List Exchange)
    (after : Service) (tells_after : List ℤ → Type 0) (journal : Journal D) : Type 0 where
  pub moves : Moves before tells_before (faults (disk_of first)) exchanges
      after tells_after (faults (disk_of journal))
  pub book : HasBook told plays before.settings before.world moves.history after.world journal
  pub moments : AtEachCall plays before (point_at [] before.world (told (disk_of first)))
      moves.history (point_at moves.history after.world (told (disk_of journal)))
