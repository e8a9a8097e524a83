-- The first place of a name in a list of names.
use Rattle.std.specs.Prelude.{◌≡◌, ℕ, suc, List, [], ◌∷◌, Option, Some, None, option_map, if◌then◌else◌}
use Rattle.std.specs.Map.{lookup}
use Rattle.std.specs.Str.{bytes_eq}

-- the first place of a name
abbrev pub place_of : List ℕ → List (List ℕ) → Option ℕ
place_of name [] = None
place_of name (x ∷ xs) = if bytes_eq name x then Some 0 else option_map suc (place_of name xs)

-- the place that stands beside a name, where names stand each with a place
abbrev pub found : List ℕ → List (List ℕ × ℕ) → Option ℕ
found name pairs = lookup (bytes_eq name) pairs

-- beside each name of the list stands its first place, and no other name has one
abbrev pub IsIndexOf : List (List ℕ × ℕ) → List (List ℕ) → Type 0
IsIndexOf pairs names = (name : List ℕ) → found name pairs ≡ place_of name names
