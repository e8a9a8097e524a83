-- What reading the front of a source did.
use Rattle.std.specs.Prelude.{◌≡◌, ℕ, ◌<◌, ◌≤◌, ◌⊎◌, List, length, Option, Result, Ok, Err}
use Rattle.std.specs.Global.{Vec}
use Rattle.fault_counts.specs.Causes.{Rose, counted}
use Rattle.outside.specs.Bytes.{Gave, IsEnd}
use Rattle.outside.specs.Ends.{Incoming}
use Rattle.whole_reads.specs.declared.front.ReadEnd.{ReadEnd}
use Rattle.whole_reads.specs.declared.front.ReadEnd.TheVariants.{Failed, Memory}

-- The answer to the bytes that the source gave, with what it has left. Fewer than the most come
-- only where it ended. After an error they are gone, and were fewer than the most.
abbrev pub IsFront : ℕ → List ℕ → Result (Vec ℕ) ReadEnd → Option (List ℕ) → Type 0
IsFront most got (Ok bytes) left = (bytes.items ≡ got) × (IsEnd left ⊎ (length got ≡ most))
IsFront most got (Err e) left = length got < most

-- A read that failed raised the count of failed reads, and every other answer leaves it as it was.
abbrev pub CountsRead : {T : Type 0} → ℕ → Result T ReadEnd → ℕ → Type 0
CountsRead before (Ok done) now = now ≡ before
CountsRead before (Err Failed) now = (before ≤ now) × Rose before now
CountsRead before (Err Memory) now = now ≡ before

-- The end was reached by one read where fewer bytes came than the most, and by none where as many
-- came, or at an error. So behind the end nothing is read.
abbrev pub CountsEnds : ℕ → List ℕ → ℕ → Result (Vec ℕ) ReadEnd → ℕ → Type 0
CountsEnds most got before (Ok bytes) now =
    ((length got < most) × (now ≡ counted before)) ⊎ ((length got ≡ most) × (now ≡ before))
CountsEnds most got before (Err e) now = now ≡ before

-- What reading up to so many bytes did: what the source gave, never more than the most, the answer
-- to it, and the counts of failed reads and of ends.
pub record ReadsFront (before : Incoming) (most : ℕ) (result : Result (Vec ℕ) ReadEnd)
    (after : Incoming) : Type 0 where
  pub got : List ℕ
  pub gave : Gave before.left got after.left
  pub bounded : length got ≤ most
  pub answer : IsFront most got result after.left
  pub faults : CountsRead before.faults result after.faults
  pub ends : CountsEnds most got before.ends result after.ends
