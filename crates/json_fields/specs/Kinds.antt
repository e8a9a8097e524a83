-- Kinds of values: what a fault of one is, what one means, and which counts as empty.
use Rattle.std.specs.Prelude.{◌≡◌, Bool, true, false, List, [], ◌==◌, length, Option, Some, None, if◌then◌else◌}
use Rattle.serde_json.specs.Data.{Data, null, boolean, number, string, array, object, Items, no_items, item}
use Rattle.json_fields.specs.Faults.{here}
use Rattle.json_fields.specs.Fields.{fault_from, list_of, Pairs}
use Rattle.json_fields.specs.declared.faults.FieldFault.{FieldFault}
use Rattle.json_fields.specs.declared.faults.FaultKind.TheVariants.{WrongKind, BadValue}
use Rattle.json_fields.specs.declared.whys.Why.TheVariants.{NotBuilt}

-- no value of the kind is empty
abbrev pub never_empty : Data → Bool
never_empty d = false

-- the empty text, and the empty list
abbrev pub empty_text : Data → Bool
empty_text null = false
empty_text (boolean b) = false
empty_text (number n) = false
empty_text (string s) = length s == 0
empty_text (array ds) = false
empty_text (object ms) = false

abbrev pub no_items_in : Items → Bool
no_items_in no_items = true
no_items_in (item d ds) = false

abbrev pub empty_list : Data → Bool
empty_list null = false
empty_list (boolean b) = false
empty_list (number n) = false
empty_list (string s) = false
empty_list (array ds) = no_items_in ds
empty_list (object ms) = false

-- an object
abbrev pub an_object : Data → Option FieldFault
an_object null = Some (here WrongKind)
an_object (boolean b) = Some (here WrongKind)
an_object (number n) = Some (here WrongKind)
an_object (string s) = Some (here WrongKind)
an_object (array ds) = Some (here WrongKind)
an_object (object ms) = None

-- a list, whose elements are of a kind
abbrev pub a_list : (Data → Option FieldFault) → Data → Option FieldFault
a_list fault null = Some (here WrongKind)
a_list fault (boolean b) = Some (here WrongKind)
a_list fault (number n) = Some (here WrongKind)
a_list fault (string s) = Some (here WrongKind)
a_list fault (array ds) = fault_from 0 fault (list_of ds)
a_list fault (object ms) = Some (here WrongKind)

-- the values of its elements
abbrev pub IsEach : {A : Type 0} → (Data → A → Type 0) → Data → List A → Type 0
IsEach means null xs = ⊥
IsEach means (boolean b) xs = ⊥
IsEach means (number n) xs = ⊥
IsEach means (string s) xs = ⊥
IsEach means (array ds) xs = Pairs means (list_of ds) xs
IsEach means (object ms) xs = ⊥

-- the values of a list that may be unset, and is empty then
abbrev pub HoldsList : {A : Type 0} → (Data → A → Type 0) → Option Data → List A → Type 0
HoldsList means None xs = xs ≡ []
HoldsList means (Some d) xs = IsEach means d xs

-- A list that isn't built yet: it may be empty.
abbrev pub an_unbuilt_list : Data → Option FieldFault
an_unbuilt_list null = Some (here WrongKind)
an_unbuilt_list (boolean b) = Some (here WrongKind)
an_unbuilt_list (number n) = Some (here WrongKind)
an_unbuilt_list (string s) = Some (here WrongKind)
an_unbuilt_list (array ds) = if no_items_in ds then None else Some (here (BadValue NotBuilt))
an_unbuilt_list (object ms) = Some (here WrongKind)
