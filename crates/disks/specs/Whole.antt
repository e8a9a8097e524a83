-- Reads that fill their room.
use Rattle.std.specs.Prelude.{◌≡◌, ℕ, ◌+◌, ◌<◌, ◌≤◌, Bool, true, false, List, length, take, drop}

-- The room holds the bytes from this place on, or they end before it is full.
abbrev pub FillsRoom : List ℕ → ℕ → List ℕ → Bool → Type 0
FillsRoom bytes at room true =
    (at + length room ≤ length bytes) × (room ≡ take (length room) (drop at bytes))
FillsRoom bytes at room false = length bytes < at + length room
