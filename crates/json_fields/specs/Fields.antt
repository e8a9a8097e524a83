-- What it is to read an object by a list of fields.
use Rattle.std.specs.Prelude.{◌≡◌, ℕ, ◌+◌, List, [], ◌∷◌, Bool, if◌then◌else◌, Option, Some, None, IsUtf8, option_and_then, unwrap_or, ⊤}
use Rattle.serde_json.specs.Data.{Data, null, boolean, number, string, array, object, Items, no_items, item}
use Rattle.serde_json.specs.Read.{read}
use Rattle.serde_json.specs.Find.{get}
use Rattle.json_fields.specs.Names.{NameForm}
use Rattle.json_fields.specs.Faults.{here, under, first, moved}
use Rattle.json_fields.specs.declared.faults.FieldFault.{FieldFault}
use Rattle.json_fields.specs.declared.faults.FaultKind.TheVariants.{Missing}
use Rattle.json_fields.specs.declared.names.Step.TheVariants.{Member, Place}

-- The body is UTF-8 text, and the JSON text (RFC 8259) of this value. Of two members with one name
-- the last counts.
abbrev pub IsJson : List ℕ → Data → Type 0
IsJson body d = IsUtf8 body × (read body ≡ Some d)

-- the member under the lowerCamelCase name where that name is there at all, else the one under the
-- proto's
abbrev pub or_else : {A : Type 0} → Option A → Option A → Option A
or_else None b = b
or_else (Some a) b = Some a

abbrev pub member : NameForm → Data → Option Data
member n d = or_else (get n.camel d) (get n.proto d)

-- null counts as unset
abbrev pub set : Data → Option Data
set null = None
set (boolean b) = Some (boolean b)
set (number n) = Some (number n)
set (string s) = Some (string s)
set (array ds) = Some (array ds)
set (object ms) = Some (object ms)

-- Where a field has to be set, what its kind calls empty counts as unset too.
abbrev pub filled : (Data → Bool) → Data → Option Data
filled empty null = None
filled empty (boolean b) = if empty (boolean b) then None else Some (boolean b)
filled empty (number n) = if empty (number n) then None else Some (number n)
filled empty (string s) = if empty (string s) then None else Some (string s)
filled empty (array ds) = if empty (array ds) then None else Some (array ds)
filled empty (object ms) = if empty (object ms) then None else Some (object ms)

unfoldable pub set_at : NameForm → Data → Option Data
set_at n d = option_and_then set (member n d)

unfoldable pub filled_at : NameForm → (Data → Bool) → Data → Option Data
filled_at n empty d = option_and_then (filled empty) (member n d)

-- an unset text counts as the empty one
unfoldable pub text_at : NameForm → Data → Data
text_at n d = unwrap_or (set_at n d) (string [])

-- the fault of a field, by what is a fault of its value
abbrev pub fault_required : NameForm → (Data → Option FieldFault) → Option Data → Option FieldFault
fault_required n fault None = Some (under (Member n) (here Missing))
fault_required n fault (Some d) = moved (Member n) (fault d)

abbrev pub fault_optional : NameForm → (Data → Option FieldFault) → Option Data → Option FieldFault
fault_optional n fault None = None
fault_optional n fault (Some d) = moved (Member n) (fault d)

-- A field that must be set: its name, what its kind calls empty, and what is a fault of its value.
unfoldable pub required : NameForm → (Data → Bool) → (Data → Option FieldFault) → Data
    → Option FieldFault
required n empty fault d = fault_required n fault (filled_at n empty d)

-- a field that may be unset
unfoldable pub optional : NameForm → (Data → Option FieldFault) → Data → Option FieldFault
optional n fault d = fault_optional n fault (set_at n d)

-- a field whose text counts as empty where it is unset
unfoldable pub or_empty : NameForm → (Data → Option FieldFault) → Data → Option FieldFault
or_empty n fault d = moved (Member n) (fault (text_at n d))

-- The first fault of a list of fields, in their order.
abbrev pub fault_of : List (Data → Option FieldFault) → Data → Option FieldFault
fault_of [] d = None
fault_of (f ∷ fs) d = first (f d) (fault_of fs d)

-- The value of a field, where means says which values of the program a JSON value means.
abbrev pub Holds : {A : Type 0} → (Data → A → Type 0) → Option Data → A → Type 0
Holds means None a = ⊥
Holds means (Some d) a = means d a

-- the value of a field that may be unset
abbrev pub HoldsMaybe : {A : Type 0} → (Data → A → Type 0) → Option Data → Option A → Type 0
HoldsMaybe means None None = ⊤
HoldsMaybe means None (Some a) = ⊥
HoldsMaybe means (Some d) None = ⊥
HoldsMaybe means (Some d) (Some a) = means d a

-- the elements of a JSON array
abbrev pub list_of : Items → List Data
list_of no_items = []
list_of (item d ds) = d ∷ list_of ds

-- The first fault of a list's elements from this place on, each judged whole.
unfoldable pub fault_from : ℕ → (Data → Option FieldFault) → List Data → Option FieldFault
fault_from k fault [] = None
fault_from k fault (d ∷ ds) = first (moved (Place k) (fault d)) (fault_from (k + 1) fault ds)

-- two lists of one length, whose elements belong together in turn
abbrev pub Pairs : {A B : Type 0} → (A → B → Type 0) → List A → List B → Type 0
Pairs R [] [] = ⊤
Pairs R [] (y ∷ ys) = ⊥
Pairs R (x ∷ xs) [] = ⊥
Pairs R (x ∷ xs) (y ∷ ys) = R x y × Pairs R xs ys
