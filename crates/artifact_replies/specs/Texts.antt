-- The code's own words: the text of an object, a member at a time.
use Rattle.std.specs.Prelude.{ℕ, List, [], ◌∷◌, ◌++◌, ◌==◌, ◌&&◌, nat_lt, not, Bool, Option, Some, None}
use Rattle.json.specs.Print.{quoted}
use Rattle.serde_json.specs.Data.{Data}
use Rattle.serde_json.specs.Written.{comma_if, compact_text}

-- the byte stands as itself in a text of JSON
abbrev pub is_plain : ℕ → Bool
is_plain b = nat_lt 31 b && not (b == 34) && not (b == 92)

-- the name of a member, behind a comma where members stand before it
abbrev pub key_text : Bool → List ℕ → List ℕ
key_text later key = comma_if later ++ (quoted key ++ 58 ∷ [])

-- a member; nothing where it has no value
abbrev pub member_text : Bool → List ℕ → Option Data → List ℕ
member_text later key None = []
member_text later key (Some d) = key_text later key ++ compact_text d
