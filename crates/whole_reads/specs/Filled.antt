-- The code's own words, which private contracts alone cite: what reading into a room leaves.
use Rattle.std.specs.Prelude.{◌≡◌, ℕ, ◌+◌, ◌<◌, ◌≤◌, ◌⊎◌, List, [], ◌++◌, length, take, drop, Option, Result, Ok, Err, IfOk}
use Rattle.fault_counts.specs.Causes.{HasCause, counted}
use Rattle.fault_counts.specs.declared.Failed.{Failed}
use Rattle.outside.specs.Bytes.{Gave, IsEnd}
use Rattle.outside.specs.Ends.{Incoming, CountsAtEnd}
use Rattle.whole_reads.specs.Front.{CountsRead}
use Rattle.whole_reads.specs.declared.front.ReadEnd.{ReadEnd}
use Rattle.whole_reads.specs.declared.front.ReadEnd.TheVariants as end

-- what one read gave into a room from a place on
abbrev pub given_at : ℕ → Result ℕ Failed → List ℕ → List ℕ
given_at at (Ok count) room = take count (drop at room)
given_at at (Err e) room = []

-- one read into a room from a place on
pub record ReadsAt (had : Incoming) (at : ℕ) (room : List ℕ) (result : Result ℕ Failed)
    (now : List ℕ) (left : Incoming) : Type 0 where
  pub bound : IfOk result (λ n. at + n ≤ length now)
  pub kept : take at now ≡ take at room
  pub gave : Gave had.left (given_at at result now) left.left
  pub at_end : IfOk result (λ n. n ≡ 0 → IsEnd left.left)
  pub cause : HasCause had.faults left.faults result
  pub ends : CountsAtEnd had.ends (drop at now) result left.ends

-- the room up to the end is what it began with and what was read; short of its length the source
-- ended
abbrev pub IsFilled : List ℕ → ℕ → List ℕ → List ℕ → Option (List ℕ) → Result ℕ ReadEnd → Type 0
IsFilled room from got now left (Ok end) =
    (end ≡ from + length got) × (take end now ≡ take from room ++ got)
    × (end < length now → IsEnd left)
IsFilled room from got now left (Err end.Failed) = from + length got < length now
IsFilled room from got now left (Err end.Memory) = ⊥

-- one read more reached the end where the room isn't full
abbrev pub EndsFill : List ℕ → ℕ → Result ℕ ReadEnd → ℕ → Type 0
EndsFill now before (Ok end) ends =
    ((end < length now) × (ends ≡ counted before)) ⊎ ((end ≡ length now) × (ends ≡ before))
EndsFill now before (Err e) ends = ends ≡ before

-- reads into a room from a place on, until it is full or the source ends
pub record Fills (room : List ℕ) (had : Incoming) (from : ℕ) (result : Result ℕ ReadEnd)
    (now : List ℕ) (left : Incoming) : Type 0 where
  pub got : List ℕ
  pub gave : Gave had.left got left.left
  pub bound : from + length got ≤ length now
  pub answer : IsFilled room from got now left.left result
  pub faults : CountsRead had.faults result left.faults
  pub ends : EndsFill now had.ends result left.ends
