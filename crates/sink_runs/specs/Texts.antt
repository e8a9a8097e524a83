-- What became of a text that was to be read.
use Rattle.std.specs.Prelude.{◌≡◌, ℕ, ◌<◌, ◌≤◌, ◌⊎◌, List, length}
use Rattle.fault_counts.specs.Causes.{Rose}
use Rattle.outside.specs.Bytes.{Gave, IsEnd}
use Rattle.outside.specs.Ends.{Incoming}

-- It was read to its end, and no read failed.
pub record IsReadWhole (before : Incoming) (text : List ℕ) (after : Incoming) : Type 0 where
  pub gave : Gave before.left text after.left
  pub at_end : IsEnd after.left
  pub faults : after.faults ≡ before.faults

-- It was read to its end, or as far as such a text is read, and no read failed.
pub record IsReadFar (most : ℕ) (before : Incoming) (text : List ℕ) (after : Incoming)
    : Type 0 where
  pub gave : Gave before.left text after.left
  pub whole : IsEnd after.left ⊎ (length text ≡ most)
  pub faults : after.faults ≡ before.faults

-- A read of it failed before it was read so far, and behind that nothing was read.
pub record FailsReading (most : ℕ) (before after : Incoming) : Type 0 where
  pub text : List ℕ
  pub gave : Gave before.left text after.left
  pub short : length text < most
  pub ends : after.ends ≡ before.ends
  pub later : before.faults ≤ after.faults
  pub faults : Rose before.faults after.faults

-- A part of it was read, or none, and no read failed.
pub record IsLeft (most : ℕ) (before after : Incoming) : Type 0 where
  pub text : List ℕ
  pub gave : Gave before.left text after.left
  pub bounded : length text ≤ most
  pub faults : after.faults ≡ before.faults
