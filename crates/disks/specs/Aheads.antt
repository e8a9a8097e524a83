-- Bytes of a part that were read ahead.
use Rattle.std.specs.Prelude.{◌≡◌, ℕ, ◌+◌, ◌<◌, ◌≤◌, List, length, take, drop, Option}
use Rattle.disks.specs.Moments.{Told}
use Rattle.disks.specs.Calls.{WhereTold}
use Rattle.disks.specs.declared.ahead.ReadAhead.{ReadAhead}

-- What is held are the bytes from its place on.
pub record HoldsOf (bytes : List ℕ) (ahead : ReadAhead) : Type 0 where
  pub inside : 0 < ahead.count → ahead.from + ahead.count ≤ length bytes
  pub given : take ahead.count ahead.room.items ≡ take ahead.count (drop ahead.from bytes)

-- What is held is of this part, where the disk tells it.
abbrev pub IsAheadOf : Option Told → ℕ → ReadAhead → Type 0
IsAheadOf told part ahead = WhereTold told part (λ p. HoldsOf p.bytes ahead)

-- What is held is of any bytes, since nothing is.
abbrev pub HoldsNothing : ReadAhead → Type 0
HoldsNothing ahead = (bytes : List ℕ) → HoldsOf bytes ahead
