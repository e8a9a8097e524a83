-- The ends of the outside as contracts see them, and what one call on an end did.
use Rattle.std.specs.Prelude.{◌≡◌, ℕ, zero, suc, List, [], ◌∷◌, Option, Some, None, Result, Ok, Err, IfOk}
use Rattle.std.specs.Io.{ReadsAtMost, WritesAtMost}
use Rattle.fault_counts.specs.Causes.{HasCause, CountsStall, counted}
use Rattle.fault_counts.specs.declared.Failed.{Failed}
use Rattle.outside.specs.Bytes.{Reads, Writes}

-- What comes in: what is left to read, where that is told, how many reads failed, and how many
-- reached the end: they gave nothing into room that isn't empty.
pub record Incoming : Type 0 where
  pub left : Option (List ℕ)
  pub faults : ℕ
  pub ends : ℕ

-- What goes out: what was taken, where that is told, how many writes failed, and how many took
-- nothing of a piece that isn't empty.
pub record Outgoing : Type 0 where
  pub written : Option (List ℕ)
  pub faults : ℕ
  pub stalls : ℕ

-- Both directions of a connection.
pub record Ends : Type 0 where
  pub incoming : Incoming
  pub outgoing : Outgoing

-- Nothing was written.
abbrev pub OnlyReads : Ends → Ends → Type 0
OnlyReads before after = after.outgoing ≡ before.outgoing

-- Nothing was read.
abbrev pub OnlyWrites : Ends → Ends → Type 0
OnlyWrites before after = after.incoming ≡ before.incoming

-- The count of ends after a read that gave so many bytes: one more where it gave nothing into room
-- that isn't empty.
abbrev pub ends_after : ℕ → List ℕ → ℕ → ℕ
ends_after ends [] count = ends
ends_after ends (b ∷ bs) zero = counted ends
ends_after ends (b ∷ bs) (suc n) = ends

-- A read that reached the end raised the count of ends by one, and no other read changes it.
abbrev pub CountsAtEnd : {E : Type 0} → ℕ → List ℕ → Result ℕ E → ℕ → Type 0
CountsAtEnd before room (Ok count) now = now ≡ ends_after before room count
CountsAtEnd before room (Err e) now = now ≡ before

-- What one read into room did.
pub record ReadsOnce (before : Incoming) (room : List ℕ) (result : Result ℕ Failed)
    (after : Incoming) : Type 0 where
  pub bound : ReadsAtMost result room
  pub cause : HasCause before.faults after.faults result
  pub gives : Reads before.left room result after.left
  pub ends : CountsAtEnd before.ends room result after.ends

-- What one write of a piece did.
pub record WritesOnce (before : Outgoing) (piece : List ℕ) (result : Result ℕ Failed)
    (after : Outgoing) : Type 0 where
  pub bound : WritesAtMost result piece
  pub cause : HasCause before.faults after.faults result
  pub takes : Writes before.written piece result after.written
  pub stalls : CountsStall before.stalls piece result after.stalls

-- A stream that was just opened and has so much left, where it tells it.
abbrev pub just_opened : Option (List ℕ) → Incoming
just_opened left = record { left = left; faults = 0; ends = 0 }

-- What a file tells that is read through this stream: nothing before it is open, and the count of
-- all its reads that failed.
abbrev pub file_ends : Option Incoming → ℕ → Incoming
file_ends None faults = record { left = None; faults = faults; ends = 0 }
file_ends (Some stream) faults = record stream { faults = faults }

-- The stream that is open is the one before, or was just opened, or there is none.
abbrev pub IsOpened : Option Incoming → Option Incoming → Type 0
IsOpened None None = Unit {0}
IsOpened None (Some now) = (left : Option (List ℕ)) × (now ≡ just_opened left)
IsOpened (Some before) now = now ≡ Some before

-- What one read of a file did: its stream was read once, behind its opening where it wasn't open
-- yet. A file that can't be opened has no stream, and the read fails.
abbrev pub ReadsFile : Option Incoming → List ℕ → Result ℕ Failed → Option Incoming → Type 0
ReadsFile None room result None = IfOk result (λ count. ⊥)
ReadsFile None room result (Some now) =
    (left : Option (List ℕ)) × ReadsOnce (just_opened left) room result now
ReadsFile (Some before) room result None = ⊥
ReadsFile (Some before) room result (Some now) = ReadsOnce before room result now
