-- The form of a line on the errors.
use Rattle.std.specs.Prelude.{ℕ, List, ◌++◌, codes}

-- the program's name before a text, and a line feed behind it
abbrev pub error_line : List ℕ → List ℕ
error_line text = codes "rdb: " ++ (text ++ codes "\n")
