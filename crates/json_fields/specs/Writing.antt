-- What is written so that it is read again.
use Rattle.std.specs.Prelude.{◌≡◌, ◌≢◌, ◌==◌, ℕ, Bool, List, [], ◌∷◌, length, map, Option, Some, None, ⊤}
use Rattle.serde_json.specs.Data.{Data, array, Members, put}
use Rattle.serde_json.specs.View.{items_of}
use Rattle.names_realms.specs.NameParts.declared.faults.NameFault.{NameFault}
use Rattle.json_fields.specs.Names.{NameForm}
use Rattle.json_fields.specs.Fields.{set}
use Rattle.json_fields.specs.declared.faults.FieldFault.{FieldFault}

-- It is set, it is read without a fault, and it means the value that was written. It is empty
-- exactly where that value is.
pub record IsWritten {A : Type 0} (fault : Data → Option FieldFault) (means : Data → A → Type 0)
    (empty : Data → Bool) (blank : A → Bool)
    (a : A) (d : Data) : Type 0 where
  pub is_set : set d ≡ Some d
  pub no_fault : fault d ≡ None
  pub meant : means d a
  pub emptiness : empty d ≡ blank a

-- each of them is written so
abbrev pub AllWritten : {A : Type 0} → (Data → Option FieldFault) → (Data → A → Type 0)
    → (Data → Bool) → (A → Bool) → (A → Data) → List A → Type 0
AllWritten fault means empty blank json [] = ⊤
AllWritten fault means empty blank json (x ∷ xs) =
    IsWritten fault means empty blank x (json x) × AllWritten fault means empty blank json xs

-- what is written of a list, and the list without elements
abbrev pub list_data : {A : Type 0} → (A → Data) → List A → Data
list_data json xs = array (items_of (map json xs))

abbrev pub is_bare : {A : Type 0} → List A → Bool
is_bare xs = length xs == 0

-- A text that spells the value: it isn't empty, its grammar finds no fault, and it is this value's.
pub record IsSpelled {A : Type 0} (fault : List ℕ → Option NameFault) (spells : List ℕ → A → Type 0)
    (text : List ℕ) (a : A) : Type 0 where
  pub filled : text ≢ []
  pub no_fault : fault text ≡ None
  pub spelled : spells text a

-- Members beside others: of a field that must be set, of one that may be unset and is left out
-- then, and of a list, which is left out where it is empty.
abbrev pub put_required : {A : Type 0} → NameForm → (A → Data) → A → Members → Members
put_required n json a ms = put n.camel (json a) ms

abbrev pub put_optional : {A : Type 0} → NameForm → (A → Data) → Option A → Members → Members
put_optional n json None ms = ms
put_optional n json (Some a) ms = put n.camel (json a) ms

abbrev pub put_list : {A : Type 0} → NameForm → (A → Data) → List A → Members → Members
put_list n json [] ms = ms
put_list n json (x ∷ xs) ms = put n.camel (list_data json (x ∷ xs)) ms
