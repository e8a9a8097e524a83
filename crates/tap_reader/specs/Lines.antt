-- The lines of a report.
use Rattle.std.specs.Prelude.{ℕ, ◌==◌, ◌&&◌, if◌then◌else◌, Bool, false, List, [], ◌∷◌}

-- a byte more at the front of the first line
abbrev pub onto_first : ℕ → List (List ℕ) → List (List ℕ)
onto_first b [] = (b ∷ []) ∷ []
onto_first b (l ∷ ls) = (b ∷ l) ∷ ls

-- a LF stands here
abbrev pub at_line_end : List ℕ → Bool
at_line_end [] = false
at_line_end (b ∷ bs) = b == 10

-- The lines of a text. Each ends at a LF or with the text; a CR right before a LF is no part of its
-- line.
abbrev pub lines : List ℕ → List (List ℕ)
lines [] = []
lines (b ∷ bs) =
    if b == 10 then [] ∷ lines bs
    else (if b == 13 && at_line_end bs then lines bs else onto_first b (lines bs))
