-- Lists with a limit of elements.
use Rattle.std.specs.Prelude.{ℕ, nat_lt, if◌then◌else◌, length, Option, Some, None}
use Rattle.serde_json.specs.Data.{Data, null, boolean, number, string, array, object}
use Rattle.json_fields.specs.Faults.{here, first}
use Rattle.json_fields.specs.Fields.{list_of}
use Rattle.json_fields.specs.Kinds.{a_list}
use Rattle.json_fields.specs.declared.faults.FieldFault.{FieldFault}
use Rattle.json_fields.specs.declared.faults.FaultKind.TheVariants.{BadValue}
use Rattle.json_fields.specs.declared.whys.Why.TheVariants.{TooMany}

-- the fault of a list of so many elements
abbrev pub over : ℕ → ℕ → Option FieldFault
over most count = if nat_lt most count then Some (here (BadValue (TooMany count))) else None

abbrev pub too_many : ℕ → Data → Option FieldFault
too_many most null = None
too_many most (boolean b) = None
too_many most (number n) = None
too_many most (string s) = None
too_many most (array ds) = over most (length (list_of ds))
too_many most (object ms) = None

-- a list of at most so many elements, which is judged before its elements
abbrev pub a_limited_list : ℕ → (Data → Option FieldFault) → Data → Option FieldFault
a_limited_list most fault d = first (too_many most d) (a_list fault d)

-- how many names a query may have
abbrev pub most_names : ℕ
most_names = 100
