-- The answers of a clock over several calls.
use Rattle.std.specs.Prelude.{◌≡◌, ℤ, List, ◌++◌, length}

-- A clock that told these answers at the start gave them, and tells the others now.
abbrev pub IsClocked : (List ℤ → Type 0) → List ℤ → (List ℤ → Type 0) → Type 0
IsClocked tells_before answers tells_after =
    (given others : List ℤ) → length given ≡ length answers → tells_before (given ++ others)
    → (answers ≡ given) × tells_after others
