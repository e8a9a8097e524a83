-- How a part stands when a journal on it was begun.
use Rattle.std.specs.Prelude.{◌≡◌, ◌≢◌, ℕ, ◌<◌, ◌≤◌, List, [], ◌∷◌, ◌++◌, length, take, slice_index, Option}
use Rattle.disks.specs.Parts.{Image, all_synced, image_of}
use Rattle.disks.specs.Moments.{Told}
use Rattle.disks.specs.Calls.{WhereTold}
use Rattle.result_journal.specs.Grammar.{head, IsOfHead, IsForeign, IsNewer}
use Rattle.result_journal.specs.declared.opening.OpenFault.{OpenFault}
use Rattle.result_journal.specs.declared.opening.OpenFault.TheVariants.{NotAJournal, Damaged, NewerVersion, DiskFailed, Memory}

-- The head and a closed gate, in nine bytes.
pub record IsEmptyJournal (bytes : List ℕ) : Type 0 where
  pub nine : length bytes ≡ 9
  pub front : take 8 bytes ≡ head
  pub closed : slice_index bytes 8 ≢ 1

-- At most nine bytes that aren't an empty journal become one. Other bytes stay.
pub record BeginsAs (old new : List ℕ) : Type 0 where
  pub long : 9 < length old → new ≡ old
  pub empty : IsEmptyJournal old → new ≡ old
  pub anew : length old ≤ 9 → ¬ IsEmptyJournal old → new ≡ head ++ 0 ∷ []

abbrev pub IsShortImage : ℕ → Image → Type 0
IsShortImage part image = length (image_of image part) ≤ 9

-- No crash leaves more than nine bytes in this part.
abbrev pub IsShort : ℕ → Option Told → Type 0
IsShort part told = WhereTold told part (λ p. p.greatest ≤ 9)

-- The part holds these bytes, and all of it is synced.
abbrev pub HoldsSynced : ℕ → Option Told → List ℕ → Type 0
HoldsSynced part told bytes = WhereTold told part (λ p. p ≡ all_synced bytes)

-- A head of this version.
pub record IsHead (version : ℕ) (bytes : List ℕ) : Type 0 where
  pub each : (k : ℕ) → k < 8 → IsOfHead k (slice_index bytes k)
  pub digit : slice_index bytes 7 ≡ version

-- The fault of a head.
abbrev pub HeadFault : ℕ → List ℕ → OpenFault → Type 0
HeadFault version bytes (NotAJournal at) = IsForeign bytes at
HeadFault version bytes (NewerVersion found) = IsNewer version bytes found
HeadFault version bytes (Damaged at byte) = ⊥
HeadFault version bytes DiskFailed = Unit {0}
HeadFault version bytes Memory = ⊥
