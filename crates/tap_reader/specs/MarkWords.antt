-- The code's own words for a list of marks, one for each number of a plan.
use Rattle.std.specs.Prelude.{ℕ, ◌+◌, ◌-◌, ◌==◌, if◌then◌else◌, Bool, true, List, [], ◌∷◌, slice_set}

-- the marks with that of a number set, if it has one; the first is that of 1
abbrev pub marked : List Bool → ℕ → List Bool
marked marks n = if n == 0 then marks else slice_set marks (n - 1) true

-- the numbers that aren't marked, where the first mark is that of k
abbrev pub unmarked : ℕ → List Bool → List ℕ
unmarked k [] = []
unmarked k (m ∷ ms) = if m then unmarked (k + 1) ms else k ∷ unmarked (k + 1) ms
