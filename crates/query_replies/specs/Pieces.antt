-- The code's own words: the text of a member in an object.
use Rattle.std.specs.Prelude.{ℕ, List, [], ◌∷◌, ◌++◌, Bool, Option, Some, None}
use Rattle.json.specs.Print.{quoted}
use Rattle.serde_json.specs.Data.{Data}
use Rattle.serde_json.specs.Written.{comma_if, compact_text}
use Rattle.json_fields.specs.Names.{NameForm}

-- a name in front of a value, behind a comma where another member stands before
abbrev pub name_piece : Bool → NameForm → List ℕ → List ℕ
name_piece later n text = comma_if later ++ (quoted n.camel ++ 58 ∷ text)

-- a member, nothing where it has no value
abbrev pub member_piece : Bool → NameForm → Option Data → List ℕ
member_piece later n None = []
member_piece later n (Some d) = name_piece later n (compact_text d)
