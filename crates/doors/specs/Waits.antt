-- How long the peer of a stream was waited for.
use Rattle.std.specs.Prelude.{◌≡◌, ℕ, ◌≤◌, Result, IsErr}

-- In nanoseconds: how long it may be waited for in one direction, and how long it was, in the reads
-- since the last write, and in the writes since the last read.
pub record Waits : Type 0 where
  pub most : ℕ
  pub reads : ℕ
  pub writes : ℕ

-- What one call did that waits in one direction. It fails where no time was left in that direction,
-- and takes no time back; in the other direction all time is left again.
pub record WaitsOnce {A E : Type 0} (most before : ℕ) (result : Result A E) (now other : ℕ)
    : Type 0 where
  pub up : most ≤ before → IsErr result
  pub adds : before ≤ now
  pub anew : other ≡ 0

abbrev pub ReadsInTime : {A E : Type 0} → Waits → Result A E → Waits → Type 0
ReadsInTime before result after =
    WaitsOnce before.most before.reads result after.reads after.writes × (after.most ≡ before.most)

abbrev pub WritesInTime : {A E : Type 0} → Waits → Result A E → Waits → Type 0
WritesInTime before result after =
    WaitsOnce before.most before.writes result after.writes after.reads × (after.most ≡ before.most)
