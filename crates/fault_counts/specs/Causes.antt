-- Counts of what failed, and the answers that they license.
use Rattle.std.specs.Prelude.{◌≡◌, ℕ, zero, suc, ◌+◌, ◌-◌, ◌^◌, ◌≤◌, min, List, [], ◌∷◌, Result, Ok, Err, OnOk, OnErr}

-- One more, but the greatest u64 stays.
abbrev pub counted : ℕ → ℕ
counted n = min (n + 1) (2 ^ 64 - 1)

-- The count rose by one at least, or stands at the greatest u64.
abbrev pub Rose : ℕ → ℕ → Type 0
Rose before now = counted before ≤ now

-- The count never falls. A call that works leaves it as it was, and one that fails raises it.
pub record HasCause {T E : Type 0} (before now : ℕ) (result : Result T E) : Type 0 where
  pub later : before ≤ now
  pub kept : OnOk result (now ≡ before)
  pub failed : OnErr result (Rose before now)

-- A write that took nothing of a piece that isn't empty raises the count, and no other call changes
-- it.
abbrev pub CountsStall : {E : Type 0} → ℕ → List ℕ → Result ℕ E → ℕ → Type 0
CountsStall before piece (Err e) now = now ≡ before
CountsStall before [] (Ok count) now = now ≡ before
CountsStall before (b ∷ bs) (Ok zero) now = (before ≤ now) × Rose before now
CountsStall before (b ∷ bs) (Ok (suc n)) now = now ≡ before
