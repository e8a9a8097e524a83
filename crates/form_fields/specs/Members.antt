-- Members of an object, of which some are left out.
use Rattle.std.specs.Prelude.{List, [], ◌∷◌, Option, Some, None}
use Rattle.serde_json.specs.Data.{Data, object, Members, no_members, put}
use Rattle.json_fields.specs.Names.{NameForm}
use Rattle.json_fields.specs.Writing.{list_data}

-- a member beside others; nothing where it has no value
abbrev pub put_some : NameForm → Option Data → Members → Members
put_some n None ms = ms
put_some n (Some d) ms = put n.camel d ms

-- members, each by its name and its value, beside others
abbrev pub put_all : List (NameForm × Option Data) → Members → Members
put_all [] ms = ms
put_all (m ∷ rest) ms = put_some m.0 m.1 (put_all rest ms)

-- The object of the members that have a value, under their lowerCamelCase names in byte order.
abbrev pub object_of : List (NameForm × Option Data) → Data
object_of members = object (put_all members no_members)

-- what is written of a list; nothing of an empty one
abbrev pub list_or_none : {A : Type 0} → (A → Data) → List A → Option Data
list_or_none json [] = None
list_or_none json (x ∷ xs) = Some (list_data json (x ∷ xs))
