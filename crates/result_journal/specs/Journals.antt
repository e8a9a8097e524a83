-- How a journal stands on its disk.
use Rattle.std.specs.Prelude.{◌≡◌, ◌≢◌, ◌⊎◌, ℕ, ◌+◌, ◌-◌, ◌^◌, ◌<◌, ◌≤◌, Bool, true, false, List, [], ◌∷◌, ◌++◌, length, take, drop, slice_index, Option, Some}
use Rattle.disks.specs.Parts.{Part, Image, MayLeave, image_of, is_among, part_of}
use Rattle.disks.specs.Moments.{Told, moment}
use Rattle.result_journal.specs.Grammar.{head, records, framed, IsBody, AreBodies, Bodies, Reads}
use Rattle.result_journal.specs.declared.journal.Journal.{Journal}
use Rattle.result_journal.specs.declared.journal.Standing.{Standing}
use Rattle.result_journal.specs.declared.journal.Standing.TheVariants.{Settled, GateMayBeOpen}

-- The part on which an opening begins. What is said of it alone has a name without `Part`.
abbrev pub begun_part : ℕ
begun_part = 0

-- What an image has of this part reads as these commands.
abbrev pub PartReadsAs : ℕ → List (List ℕ) → Image → Type 0
PartReadsAs part commands image = Reads (image_of image part) (Bodies commands)

abbrev pub ReadsAs : List (List ℕ) → Image → Type 0
ReadsAs = PartReadsAs begun_part

-- It reads as these commands, or as these and one more.
abbrev pub PartBeforeOrAfter : ℕ → List (List ℕ) → List ℕ → Image → Type 0
PartBeforeOrAfter part commands command image =
    PartReadsAs part commands image ⊎ PartReadsAs part (commands ++ command ∷ []) image

-- Whatever a crash now may leave, where the disk tells it, has P.
abbrev pub Leaves : Option Told → (Image → Type 0) → Type 0
Leaves told P = (t : Told) → told ≡ Some t → (image : Image) → MayLeave t.now image → P image

-- These bytes stand in front of a part in each of its images, but maybe for one place.
pub record StandsBut (part : Part) (free : ℕ) (front : List ℕ) : Type 0 where
  pub long : length front ≤ part.least
  pub untouched : (k : ℕ) → k < length front → k ≢ free → is_among part.begun k ≡ false
  pub kept : (k : ℕ) → k < length front → k ≢ free → slice_index part.synced k ≡ slice_index front k

-- The head and these records.
abbrev pub before_gate : List (List ℕ) → List ℕ
before_gate commands = head ++ records commands

-- The gate behind these records is closed, whatever stands behind it.
pub record AtRest (part : Part) (commands : List (List ℕ)) (end : ℕ) : Type 0 where
  pub gate : ℕ
  pub closed : gate ≢ 1
  pub are_bodies : AreBodies commands
  pub place : end ≡ length (before_gate commands)
  pub stands : StandsBut part (end + 1) (before_gate commands ++ gate ∷ [])

-- The gate behind these records is open or closed, and one more record stands behind it, with a
-- closed gate.
pub record AtGate (part : Part) (commands : List (List ℕ))
    (command : List ℕ) (end : ℕ) : Type 0 where
  pub are_bodies : AreBodies commands
  pub is_body : IsBody command
  pub place : end ≡ length (before_gate commands)
  pub stands : StandsBut part end (before_gate commands ++ 0 ∷ (framed command ++ 0 ∷ []))

-- How a part stands under a journal that is at rest, or whose gate may be open.
abbrev pub StandsAt : Standing → Part → List (List ℕ) → List ℕ → ℕ → Type 0
StandsAt Settled part commands command end = AtRest part commands end
StandsAt GateMayBeOpen part commands command end = AtGate part commands command end

abbrev pub disk_of : {D : Type 0} → Journal D → D
disk_of journal = journal.disk

-- The part of the disk that it stands on.
abbrev pub journal_part : {D : Type 0} → Journal D → ℕ
journal_part journal = journal.part

-- The place of the gate behind the last record.
abbrev pub end_of : {D : Type 0} → Journal D → ℕ
end_of journal = journal.end

-- Nothing is to settle.
abbrev pub is_settled_at : Standing → Bool
is_settled_at Settled = true
is_settled_at GateMayBeOpen = false

abbrev pub is_settled : {D : Type 0} → Journal D → Bool
is_settled journal = is_settled_at journal.standing

abbrev pub is_prepared : {D : Type 0} → Journal D → Bool
is_prepared journal = journal.is_prepared

-- The command that was prepared last.
abbrev pub prepared : {D : Type 0} → Journal D → List ℕ
prepared journal = take (length journal.staged.items - 5) (drop 4 journal.staged.items)

-- What is prepared is a frame and a closed gate, and has its place below 2^30.
pub record IsPrepared {D : Type 0} (journal : Journal D) : Type 0 where
  pub is_body : IsBody (prepared journal)
  pub form : journal.staged.items ≡ framed (prepared journal) ++ 0 ∷ []
  pub room : journal.end + 1 + length journal.staged.items ≤ 2 ^ 30

-- The journal stands for these commands, where its disk tells how it stands. One that isn't settled
-- stands for the commands before the one whose append failed, and that one's gate may be open.
pub record StandsFor {D : Type 0} (told : D → Option Told) (journal : Journal D)
    (commands : List (List ℕ)) : Type 0 where
  pub part : journal.part ≤ 1
  pub when_prepared : journal.is_prepared ≡ true → IsPrepared journal
  pub when_unsettled : is_settled journal ≡ false → journal.is_prepared ≡ true
  pub on_disk : (t : Told) → told journal.disk ≡ Some t →
      StandsAt journal.standing (part_of t.now journal.part) commands (prepared journal) journal.end

abbrev pub StandsForSome : {D : Type 0} → (D → Option Told) → Journal D → Type 0
StandsForSome told journal = (commands : List (List ℕ)) × StandsFor told journal commands

-- Beside the disk, and whether it is settled, the journal is as it was.
pub record SameButDisk {D : Type 0} (old new : Journal D) : Type 0 where
  pub part : new.part ≡ old.part
  pub end : new.end ≡ old.end
  pub staged : new.staged.items ≡ old.staged.items
  pub prepared : new.is_prepared ≡ old.is_prepared

-- So many calls changed the disk, where it tells it.
abbrev pub TakesMoments : ℕ → Option Told → Option Told → Type 0
TakesMoments count old new =
    (t u : Told) → old ≡ Some t → new ≡ Some u → moment u ≡ moment t + count
