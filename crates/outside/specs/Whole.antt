-- What a write of a whole piece did.
use Rattle.std.specs.Prelude.{◌≡◌, ℕ, ◌≤◌, List, ◌++◌, Option, Result, Ok, Err}
use Rattle.fault_counts.specs.Causes.{Rose}
use Rattle.outside.specs.Bytes.{Took}
use Rattle.outside.specs.Ends.{Outgoing}
use Rattle.outside.specs.declared.whole.WriteEnd.{WriteEnd}
use Rattle.outside.specs.declared.whole.WriteEnd.TheVariants.{WriteFault, SinkTakesNothing}

-- Behind the bytes that were written, a front of these was taken.
pub record TookFront (before : Option (List ℕ))
    (bytes : List ℕ) (now : Option (List ℕ)) : Type 0 where
  pub front : List ℕ
  pub rest : List ℕ
  pub parts : bytes ≡ front ++ rest
  pub took : Took before front now

-- All bytes were taken, or after an error a front of them.
abbrev pub IsWritten : {T E : Type 0} → Option (List ℕ) → List ℕ → Result T E → Option (List ℕ)
    → Type 0
IsWritten before bytes (Ok done) now = Took before bytes now
IsWritten before bytes (Err e) now = TookFront before bytes now

-- The count of faults rose at a write fault, and stays at every other end.
abbrev pub CountsFault : {T : Type 0} → ℕ → Result T WriteEnd → ℕ → Type 0
CountsFault before (Ok done) now = now ≡ before
CountsFault before (Err WriteFault) now = (before ≤ now) × Rose before now
CountsFault before (Err SinkTakesNothing) now = now ≡ before

-- The count of stalls rose where the sink took nothing, and stays at every other end.
abbrev pub CountsEnd : {T : Type 0} → ℕ → Result T WriteEnd → ℕ → Type 0
CountsEnd before (Ok done) now = now ≡ before
CountsEnd before (Err WriteFault) now = now ≡ before
CountsEnd before (Err SinkTakesNothing) now = (before ≤ now) × Rose before now

-- What a write of a whole piece did.
pub record WritesWhole {T : Type 0} (before : Outgoing) (bytes : List ℕ)
    (result : Result T WriteEnd) (after : Outgoing) : Type 0 where
  pub written : IsWritten before.written bytes result after.written
  pub faults : CountsFault before.faults result after.faults
  pub stalls : CountsEnd before.stalls result after.stalls
