-- How a book stands over its disk.
use Rattle.std.specs.Prelude.{◌≡◌, ◌⊎◌, ℕ, ◌≤◌, true, false, List, length, Option, Result, Ok, Err}
use Rattle.fault_counts.specs.Causes.{Rose}
use Rattle.disks.specs.Parts.{Image}
use Rattle.disks.specs.Moments.{Told}
use Rattle.disks.specs.Calls.{WhereTold}
use Rattle.result_journal.specs.Journals.{StandsFor, before_gate, begun_part, end_of, is_settled, journal_part, prepared}
use Rattle.result_journal.specs.Full.{IsFullFor}
use Rattle.result_journal.specs.Openings.{ShownWhereTold}
use Rattle.result_journal.specs.declared.journal.Journal.{Journal}
use Rattle.result_journal.specs.declared.journal.Full.{Full as NoRoom}
use Rattle.result_journal.specs.declared.journal.Full.TheVariants.{Record}
use Rattle.result_journal.specs.declared.journal.Full.TheVariants as room
use Rattle.result_journal.specs.declared.opening.OpenFault.{OpenFault}
use Rattle.journal_book.specs.Worlds.{HasNext, HasSettled, IsFileOf, Leads, Play, ShowsOutOfPlace}
use Rattle.journal_book.specs.declared.book.RecordFault.{RecordFault}
use Rattle.journal_book.specs.declared.book.RecordFault.TheVariants.{DiskFailed, Full, Memory}

-- The journal has these commands, and they lead from the first world to this one; the gate stands
-- behind them; and where an append failed, its command leads on from there.
pub record Stands {D W : Type 0} (told : D → Option Told) (plays : Play W) (first w : W)
    (journal : Journal D) (commands : List (List ℕ)) : Type 0 where
  pub part : journal_part journal ≡ begun_part
  pub on_disk : StandsFor told journal commands
  pub leads : Leads plays first commands w
  pub place : end_of journal ≡ length (before_gate commands)
  pub failed : is_settled journal ≡ false → (next : W) × plays w (prepared journal) next

abbrev pub StandsForSome : {D W : Type 0} → (D → Option Told) → Play W → W → Journal D → Type 0
StandsForSome {W = W} told plays w journal =
    (first : W) × (commands : List (List ℕ)) × Stands told plays first w journal commands

-- The journal has these commands, nothing is to settle, and the gate stands behind them.
pub record IsAppended {D : Type 0} (told : D → Option Told) (journal : Journal D)
    (commands : List (List ℕ)) : Type 0 where
  pub part : journal_part journal ≡ begun_part
  pub on_disk : StandsFor told journal commands
  pub settled : is_settled journal ≡ true
  pub place : end_of journal ≡ length (before_gate commands)

-- What an image has at any moment: the world before, maybe with the command whose append failed
-- before; or the world to which the new command leads.
abbrev pub HasEither : {D W : Type 0} → Play W → W → W → Journal D → List ℕ → Image → Type 0
HasEither plays first w journal command image =
    HasSettled plays first w (is_settled journal) (prepared journal) image
    ⊎ HasNext plays first w command image

-- what is told of a record that has no room
abbrev pub told_of : NoRoom → RecordFault
told_of (Record end length) = Full end length
told_of room.Memory = Memory

-- Why a plan isn't recorded: the disk failed in this call; or its record of this length has no room
-- behind the others, of which the place is told; or there was no memory.
abbrev pub HasRecordCause : ℕ → ℕ → ℕ → RecordFault → ℕ → Type 0
HasRecordCause end length before DiskFailed now = (before ≤ now) × Rose before now
HasRecordCause end length before (Full at size) now =
    (now ≡ before) × IsFullFor end length (Record at size)
HasRecordCause end length before Memory now = now ≡ before

abbrev pub CountsRecord : {T : Type 0} → ℕ → ℕ → ℕ → Result T RecordFault → ℕ → Type 0
CountsRecord end length before (Ok answer) now = now ≡ before
CountsRecord end length before (Err fault) now = HasRecordCause end length before fault now

-- What is to settle after a fault: nothing; or, where the disk failed, what was to settle before,
-- or this command, whose append failed.
abbrev pub LeavesToSettle : {D : Type 0} → Journal D → List ℕ → RecordFault → Journal D → Type 0
LeavesToSettle before command DiskFailed after =
    is_settled after ≡ false
    → ((is_settled before ≡ false) × (prepared after ≡ prepared before))
    ⊎ (prepared after ≡ command)
LeavesToSettle before command (Full end length) after = is_settled after ≡ true
LeavesToSettle before command Memory after = is_settled after ≡ true

-- What an opening finds wrong: the bytes of its part show it, as the disk was or as it is left; or
-- a command is out of place.
abbrev pub IsOpenFault : {W : Type 0} → Play W → W → Option Told → Option Told → OpenFault → Type 0
IsOpenFault plays first before after fault =
    ShownWhereTold begun_part before fault ⊎ (ShownWhereTold begun_part after fault
    ⊎ WhereTold after begun_part (λ p. ShowsOutOfPlace plays first p.bytes fault))

-- The world is that of the file that the part was, where the disk told it.
abbrev pub HasWorldOf : {W : Type 0} → Play W → W → W → Option Told → Type 0
HasWorldOf plays first w told = WhereTold told begun_part (λ p. IsFileOf plays first w p.bytes)
