-- The code's own words: commands that were given by an opening and replayed.
use Rattle.std.specs.Prelude.{◌≡◌, ◌⊎◌, ℕ, Bool, true, false, List, length, slice_index, Option}
use Rattle.disks.specs.Moments.{Told}
use Rattle.disks.specs.Calls.{WhereTold}
use Rattle.result_journal.specs.Grammar.{Bodies, Reads}
use Rattle.result_journal.specs.Journals.{before_gate, begun_part}
use Rattle.result_journal.specs.Openings.{HasGiven, ShownWhereTold, is_ended, next_gate, opened_disk, opened_part}
use Rattle.result_journal.specs.declared.opening.Opening.{Opening}
use Rattle.result_journal.specs.declared.opening.OpenFault.{OpenFault}
use Rattle.result_journal.specs.declared.opening.OpenFault.TheVariants.{NotAJournal, Damaged, NewerVersion, DiskFailed, Memory}
use Rattle.journal_book.specs.Worlds.{Leads, Play, ShowsOutOfPlace}

-- The opening has given these commands, its next gate stands behind them, and they lead to this
-- world.
pub record HasPlayed {D W : Type 0} (told : D → Option Told) (plays : Play W) (first : W)
    (opening : Opening D) (w : W) (commands : List (List ℕ)) : Type 0 where
  pub part : opened_part opening ≡ begun_part
  pub given : HasGiven told opening commands
  pub place : next_gate opening ≡ length (before_gate commands)
  pub leads : Leads plays first commands w

-- No other follows, and the part reads as these.
pub record HasPlayedAll {D W : Type 0} (told : D → Option Told) (plays : Play W) (first : W)
    (opening : Opening D) (w : W) : Type 0 where
  pub commands : List (List ℕ)
  pub played : HasPlayed told plays first opening w commands
  pub ended : is_ended opening ≡ true
  pub all : WhereTold (told (opened_disk opening)) begun_part (λ p. Reads p.bytes (Bodies commands))

-- One more was played, or all were.
abbrev pub GoesOnPlaying : {D W : Type 0} → (D → Option Told) → Play W → W → Opening D → W → Bool
    → Type 0
GoesOnPlaying told plays first opening w true =
    (commands : List (List ℕ)) × HasPlayed told plays first opening w commands
GoesOnPlaying told plays first opening w false = HasPlayedAll told plays first opening w

-- The bytes show the fault, or that a command is out of place.
abbrev pub IsPlayFault : {W : Type 0} → Play W → W → Option Told → OpenFault → Type 0
IsPlayFault plays first told fault =
    ShownWhereTold begun_part told fault
    ⊎ WhereTold told begun_part (λ p. ShowsOutOfPlace plays first p.bytes fault)

-- The command leads nowhere from the world, and is told by its place and its first byte; or there
-- was no memory.
abbrev pub IsReplayFault : {W : Type 0} → Play W → W → List ℕ → ℕ → OpenFault → Type 0
IsReplayFault plays w command place (NotAJournal at) = ⊥
IsReplayFault {W} plays w command place (Damaged at byte) =
    ((next : W) → ¬ plays w command next) × (at ≡ place) × (byte ≡ slice_index command 0)
IsReplayFault plays w command place (NewerVersion found) = ⊥
IsReplayFault plays w command place DiskFailed = ⊥
IsReplayFault plays w command place Memory = Unit {0}
