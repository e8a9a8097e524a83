-- Which lines of a script are which.
use Rattle.std.specs.Prelude.{◌≡◌, ℕ, List, [], ◌∷◌, Bool, true, false, ◌==◌}
use Rattle.requests_table.specs.declared.script.Line.{Line}
use Rattle.requests_table.specs.declared.script.Line.TheVariants.{Comment, Request, Odd}

-- A comment begins with '#'.
abbrev pub begins_comment : List ℕ → Bool
begins_comment [] = false
begins_comment (b ∷ bs) = b == 35

-- A line that is a comment is read as one, and no other line is.
abbrev pub IsLineOf : List ℕ → Line → Type 0
IsLineOf line Comment = begins_comment line ≡ true
IsLineOf line (Request turn) = begins_comment line ≡ false
IsLineOf line Odd = begins_comment line ≡ false
