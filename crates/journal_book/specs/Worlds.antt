-- Worlds that commands lead to, and what a crash may leave of them.
use Rattle.std.specs.Prelude.{◌≡◌, ◌⊎◌, ℕ, ◌+◌, Bool, true, false, List, [], ◌∷◌, ◌++◌, length, take, slice_index, Result, Ok, Err}
use Rattle.disks.specs.Parts.{Image, image_of}
use Rattle.result_journal.specs.Grammar.{Bodies, Reads}
use Rattle.result_journal.specs.Journals.{before_gate, begun_part}
use Rattle.result_journal.specs.declared.opening.OpenFault.{OpenFault}
use Rattle.result_journal.specs.declared.opening.OpenFault.TheVariants.{NotAJournal, Damaged, NewerVersion, DiskFailed, Memory}
use Rattle.journal_book.specs.declared.machine.ReplayFault.{ReplayFault}
use Rattle.journal_book.specs.declared.machine.ReplayFault.TheVariants as replay

-- How commands lead from world to world.
abbrev pub Play : Type 0 → Type 1
Play W = W → List ℕ → W → Type 0

-- The commands lead from one world to another, one after the other.
abbrev pub Leads : {W : Type 0} → Play W → W → List (List ℕ) → W → Type 0
Leads plays w [] end = end ≡ w
Leads {W} plays w (command ∷ commands) end =
    (next : W) × plays w command next × Leads plays next commands end

-- The bytes are a journal of commands that lead from the first world to this one.
abbrev pub IsFileOf : {W : Type 0} → Play W → W → W → List ℕ → Type 0
IsFileOf plays first w bytes =
    (commands : List (List ℕ)) × Reads bytes (Bodies commands) × Leads plays first commands w

-- So is what an image has of the part on which a journal is begun.
abbrev pub HasWorld : {W : Type 0} → Play W → W → W → Image → Type 0
HasWorld plays first w image = IsFileOf plays first w (image_of image begun_part)

-- It has the world to which this command leads from that one.
abbrev pub HasNext : {W : Type 0} → Play W → W → W → List ℕ → Image → Type 0
HasNext {W} plays first w command image =
    (next : W) × plays w command next × HasWorld plays first next image

-- It has a world; or, where something is to settle, the one to which the command leads whose append
-- failed.
abbrev pub HasSettled : {W : Type 0} → Play W → W → W → Bool → List ℕ → Image → Type 0
HasSettled plays first w true failed image = HasWorld plays first w image
HasSettled plays first w false failed image =
    HasWorld plays first w image ⊎ HasNext plays first w failed image

-- The command leads nowhere from this world, where that is said of it.
abbrev pub IsRefused : {W : Type 0} → Play W → W → List ℕ → Result Unit ReplayFault → Type 0
IsRefused plays w command (Ok done) = Unit {0}
IsRefused {W} plays w command (Err replay.OutOfPlace) = (next : W) → ¬ plays w command next
IsRefused plays w command (Err replay.Memory) = Unit {0}

-- The bytes begin with a journal of commands that lead to some world, from which the next one leads
-- nowhere. The place is that of its first byte.
pub record IsOutOfPlace {W : Type 0} (plays : Play W) (first : W) (bytes : List ℕ) (at byte : ℕ)
    : Type 0 where
  pub before : List (List ℕ)
  pub body : List ℕ
  pub w : W
  pub leads : Leads plays first before w
  pub refused : (next : W) → ¬ plays w body next
  pub there : take (length (before_gate (before ++ body ∷ []))) bytes
      ≡ before_gate (before ++ body ∷ [])
  pub place : at ≡ length (before_gate before) + 5
  pub first_byte : byte ≡ slice_index body 0

-- The bytes show that a command is out of place.
abbrev pub ShowsOutOfPlace : {W : Type 0} → Play W → W → List ℕ → OpenFault → Type 0
ShowsOutOfPlace plays first bytes (NotAJournal at) = ⊥
ShowsOutOfPlace plays first bytes (Damaged at byte) = IsOutOfPlace plays first bytes at byte
ShowsOutOfPlace plays first bytes (NewerVersion found) = ⊥
ShowsOutOfPlace plays first bytes DiskFailed = ⊥
ShowsOutOfPlace plays first bytes Memory = ⊥
