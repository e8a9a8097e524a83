-- Flags: true, or false.
use Rattle.std.specs.Prelude.{◌≡◌, Bool, Option, Some, None}
use Rattle.serde_json.specs.Data.{Data, null, boolean, number, string, array, object}
use Rattle.json_fields.specs.Faults.{here}
use Rattle.json_fields.specs.declared.faults.FieldFault.{FieldFault}
use Rattle.json_fields.specs.declared.faults.FaultKind.TheVariants.{WrongKind}

abbrev pub a_flag : Data → Option FieldFault
a_flag null = Some (here WrongKind)
a_flag (boolean b) = None
a_flag (number n) = Some (here WrongKind)
a_flag (string s) = Some (here WrongKind)
a_flag (array ds) = Some (here WrongKind)
a_flag (object ms) = Some (here WrongKind)

-- the JSON value is this flag
abbrev pub IsFlag : Data → Bool → Type 0
IsFlag d b = d ≡ boolean b
