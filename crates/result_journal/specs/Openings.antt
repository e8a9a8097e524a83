-- How an opening stands on its disk, and what it finds there.
use Rattle.std.specs.Prelude.{◌≡◌, ◌≢◌, ◌⊎◌, ℕ, suc, ◌+◌, ◌^◌, ◌<◌, ◌≤◌, Bool, true, List, length, take, drop, slice_index, Option, None, Some, Result, Ok, Err}
use Rattle.std.specs.List.{slice_index_or}
use Rattle.std.specs.Int.{w32, to_le_bytes}
use Rattle.fault_counts.specs.Causes.{Rose}
use Rattle.disks.specs.Parts.{Part, Image, MayLeave, all_synced, image_of, part_of}
use Rattle.disks.specs.Moments.{Told, moment, LeftSince}
use Rattle.disks.specs.Aheads.{IsAheadOf}
use Rattle.disks.specs.Calls.{WhereTold}
use Rattle.result_journal.specs.Grammar.{AreBodies, BeginsFramed, Reading, Foreign, Newer, Broken, Reads}
use Rattle.result_journal.specs.Journals.{before_gate, begun_part}
use Rattle.result_journal.specs.Begins.{BeginsAs}
use Rattle.result_journal.specs.declared.opening.Opening.{Opening}
use Rattle.result_journal.specs.declared.opening.OpenFault.{OpenFault}
use Rattle.result_journal.specs.declared.opening.OpenFault.TheVariants.{NotAJournal, Damaged, NewerVersion, DiskFailed, Memory}

-- These records were given, and the gate behind them stands at this place of a synced part.
pub record IsBehind (part : Part) (given : List (List ℕ)) (place size : ℕ) : Type 0 where
  pub synced : part ≡ all_synced part.bytes
  pub whole : size ≡ length part.bytes
  pub are_bodies : AreBodies given
  pub before : take place part.bytes ≡ before_gate given
  pub after_records : place ≡ length (before_gate given)
  pub short : length part.bytes ≤ 9 → slice_index part.bytes 8 ≢ 1

-- The opening has given these bodies. Where it has answered that there is no other, the gate behind
-- them is closed.
pub record HasGiven {D : Type 0} (told : D → Option Told) (opening : Opening D)
    (given : List (List ℕ)) : Type 0 where
  pub part : opening.part ≤ 1
  pub behind_head : 8 ≤ opening.place
  pub inside : opening.place < opening.size
  pub ahead : IsAheadOf (told opening.disk) opening.part opening.ahead
  pub on_disk : WhereTold (told opening.disk) opening.part
      (λ p. IsBehind p given opening.place opening.size)
  pub when_ended : opening.is_ended ≡ true →
      WhereTold (told opening.disk) opening.part (λ p. slice_index p.bytes opening.place ≢ 1)

abbrev pub HasGivenSome : {D : Type 0} → (D → Option Told) → Opening D → Type 0
HasGivenSome told opening = (given : List (List ℕ)) × HasGiven told opening given

abbrev pub opened_disk : {D : Type 0} → Opening D → D
opened_disk opening = opening.disk

-- The part of the disk that is opened.
abbrev pub opened_part : {D : Type 0} → Opening D → ℕ
opened_part opening = opening.part

-- The place of the gate behind the records that were given.
abbrev pub next_gate : {D : Type 0} → Opening D → ℕ
next_gate opening = opening.place

abbrev pub is_ended : {D : Type 0} → Opening D → Bool
is_ended opening = opening.is_ended

-- Whatever the one is read as, so is the other.
abbrev pub ReadsAlike : List ℕ → List ℕ → Type 0
ReadsAlike one other = (reading : Reading) → Reads one reading → Reads other reading

-- The image is one that a crash might have left before, or it reads as the part did.
abbrev pub PartLeftBeforeOrAlike : ℕ → Option Told → Image → Type 0
PartLeftBeforeOrAlike part told image = (t : Told) → told ≡ Some t →
    MayLeave t.now image ⊎ ReadsAlike (part_of t.now part).bytes (image_of image part)

abbrev pub LeftBeforeOrAlike : Option Told → Image → Type 0
LeftBeforeOrAlike = PartLeftBeforeOrAlike begun_part

-- From the moment after the old one on, which is that of a first sync, each image reads as the part
-- did.
abbrev pub PartAlikeOnceSynced : ℕ → Option Told → Option Told → Type 0
PartAlikeOnceSynced part old new = (t u : Told) → old ≡ Some t → new ≡ Some u → (image : Image) →
    LeftSince (suc (moment t)) u image → ReadsAlike (part_of t.now part).bytes (image_of image part)

abbrev pub AlikeOnceSynced : Option Told → Option Told → Type 0
AlikeOnceSynced = PartAlikeOnceSynced begun_part

-- What was more than the nine bytes that an opening may begin anew is as it was.
abbrev pub PartStaysWhereLong : ℕ → Option Told → Option Told → Type 0
PartStaysWhereLong part old new = (t u : Told) → old ≡ Some t → new ≡ Some u →
    9 < length (part_of t.now part).bytes → (part_of u.now part).bytes ≡ (part_of t.now part).bytes

abbrev pub LongPartStays : Option Told → Option Told → Type 0
LongPartStays = PartStaysWhereLong begun_part

-- The bytes show this fault, where it is one of them.
abbrev pub Shows : List ℕ → OpenFault → Type 0
Shows bytes (NotAJournal at) = Reads bytes (Foreign at)
Shows bytes (Damaged at byte) = Reads bytes (Broken at byte)
Shows bytes (NewerVersion found) = Reads bytes (Newer found)
Shows bytes DiskFailed = Unit {0}
Shows bytes Memory = Unit {0}

abbrev pub ShownWhereTold : ℕ → Option Told → OpenFault → Type 0
ShownWhereTold part told fault = WhereTold told part (λ p. Shows p.bytes fault)

-- The count of faults rose where a call on the disk failed, and stays at every other answer.
abbrev pub FaultCause : ℕ → OpenFault → ℕ → Type 0
FaultCause before DiskFailed now = (before ≤ now) × Rose before now
FaultCause before (NotAJournal at) now = now ≡ before
FaultCause before (Damaged at byte) now = now ≡ before
FaultCause before (NewerVersion found) now = now ≡ before
FaultCause before Memory now = now ≡ before

abbrev pub CountsOpening : {T : Type 0} → ℕ → Result T OpenFault → ℕ → Type 0
CountsOpening before (Ok value) now = now ≡ before
CountsOpening before (Err fault) now = FaultCause before fault now

-- Behind an open gate at this place stands a record whose body has so many bytes.
pub record IsWholeAt (bytes : List ℕ) (place count : ℕ) : Type 0 where
  pub gate : slice_index bytes place ≡ 1
  pub word : to_le_bytes w32 count ≡ take 4 (drop (place + 1) bytes)
  pub some : 1 ≤ count
  pub few : count ≤ 2 ^ 23
  pub inside : place + 5 + count < length bytes

-- What stands at a place: a closed gate, or an open one and the length of a record that lies whole
-- within the bytes.
abbrev pub FindsLength : List ℕ → ℕ → Option ℕ → Type 0
FindsLength bytes place None = slice_index bytes place ≢ 1
FindsLength bytes place (Some count) = IsWholeAt bytes place count

-- Behind an open gate at this place no record stands whole.
pub record IsBrokenAt (bytes : List ℕ) (place at byte : ℕ) : Type 0 where
  pub gate : slice_index bytes place ≡ 1
  pub broken : ¬ BeginsFramed (drop (place + 1) bytes)
  pub there : at ≡ place + 1
  pub byte_there : byte ≡ slice_index_or bytes (place + 1) 256

abbrev pub BrokenFault : List ℕ → ℕ → OpenFault → Type 0
BrokenFault bytes place (Damaged at byte) = IsBrokenAt bytes place at byte
BrokenFault bytes place DiskFailed = Unit {0}
BrokenFault bytes place (NotAJournal at) = ⊥
BrokenFault bytes place (NewerVersion found) = ⊥
BrokenFault bytes place Memory = Unit {0}

-- A body of so many bytes, and one byte more, lie within the size.
abbrev pub IfFits : ℕ → ℕ → Option ℕ → Type 0
IfFits place size None = Unit {0}
IfFits place size (Some count) = (1 ≤ count) × (count ≤ 2 ^ 23) × (place + 5 + count < size)

-- Memory was wanting, or a call on the disk failed.
abbrev pub IsNoFaultOfBytes : OpenFault → Type 0
IsNoFaultOfBytes DiskFailed = Unit {0}
IsNoFaultOfBytes Memory = Unit {0}
IsNoFaultOfBytes (NotAJournal at) = ⊥
IsNoFaultOfBytes (Damaged at byte) = ⊥
IsNoFaultOfBytes (NewerVersion found) = ⊥

-- What the part holds is begun from what it held.
abbrev pub PartOpensAs : ℕ → Option Told → Option Told → Type 0
PartOpensAs part old new = (t u : Told) → old ≡ Some t → new ≡ Some u →
    BeginsAs (part_of t.now part).bytes (part_of u.now part).bytes

abbrev pub OpensAs : Option Told → Option Told → Type 0
OpensAs = PartOpensAs begun_part
