-- Properties: an object that is kept as its compact text.
use Rattle.std.specs.Prelude.{◌≡◌, ℕ, Bool, true, false, nat_lt, if◌then◌else◌, List, length, codes, bytes_eq, Option, Some, None, unwrap_or}
use Rattle.serde_json.specs.Data.{Data, null, boolean, number, string, array, object, depth, Members, no_members, member}
use Rattle.serde_json.specs.Read.{read}
use Rattle.serde_json.specs.Written.{compact_text, has_float}
use Rattle.json_fields.specs.Faults.{here}
use Rattle.json_fields.specs.declared.faults.FieldFault.{FieldFault}
use Rattle.json_fields.specs.declared.faults.FaultKind.TheVariants.{WrongKind, BadValue}
use Rattle.json_fields.specs.declared.whys.Why.TheVariants.{NotWhole, TooLong, TooDeep}

-- how deep lists and objects may nest in it, itself counted
abbrev pub deep_fault : Data → Option FieldFault
deep_fault d = if nat_lt 64 (depth d) then Some (here (BadValue TooDeep)) else None

-- how many bytes its compact text may have
abbrev pub long_fault : Data → Option FieldFault
long_fault d =
    if nat_lt 8192 (length (compact_text d))
    then Some (here (BadValue (TooLong (length (compact_text d)))))
    else deep_fault d

-- a float anywhere, then too long a text, then too deep a nesting
abbrev pub properties_fault : Data → Option FieldFault
properties_fault d = if has_float d then Some (here (BadValue NotWhole)) else long_fault d

abbrev pub a_properties : Data → Option FieldFault
a_properties null = Some (here WrongKind)
a_properties (boolean b) = Some (here WrongKind)
a_properties (number n) = Some (here WrongKind)
a_properties (string s) = Some (here WrongKind)
a_properties (array ds) = Some (here WrongKind)
a_properties (object ms) = properties_fault (object ms)

-- the compact text of the value
abbrev pub IsCompact : Data → List ℕ → Type 0
IsCompact d text = text ≡ compact_text d

abbrev pub no_members_in : Members → Bool
no_members_in no_members = true
no_members_in (member k d ms) = false

-- the empty object
abbrev pub empty_object : Data → Bool
empty_object null = false
empty_object (boolean b) = false
empty_object (number n) = false
empty_object (string s) = false
empty_object (array ds) = false
empty_object (object ms) = no_members_in ms

-- The text is the compact one of an object without a fault, and is read as that object.
pub record IsKept (text : List ℕ) : Type 0 where
  pub value : Data
  pub reads : read text ≡ Some value
  pub right : a_properties value ≡ None
  pub compact : IsCompact value text

-- what is written of properties: the value that their text is
abbrev pub value_in : List ℕ → Data
value_in text = unwrap_or (read text) null

-- the text of the empty object
abbrev pub is_braces : List ℕ → Bool
is_braces text = bytes_eq text (codes "{}")
