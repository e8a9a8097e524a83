-- Fields that are judged beside what the request says elsewhere.
use Rattle.std.specs.Prelude.{◌||◌, ◌==◌, if◌then◌else◌, ℕ, List, length, bytes_eq, Option, Some, None}
use Rattle.serde_json.specs.Data.{Data, null, boolean, number, string, array, object}
use Rattle.json_fields.specs.Faults.{here}
use Rattle.json_fields.specs.declared.faults.FieldFault.{FieldFault}
use Rattle.json_fields.specs.declared.faults.FaultKind.TheVariants.{WrongKind, BadValue}
use Rattle.json_fields.specs.declared.whys.Why.TheVariants.{Differs}

-- a text that is empty, or the outer one
abbrev pub a_same_text : List ℕ → Data → Option FieldFault
a_same_text outer null = Some (here WrongKind)
a_same_text outer (boolean b) = Some (here WrongKind)
a_same_text outer (number n) = Some (here WrongKind)
a_same_text outer (string s) =
    if length s == 0 || bytes_eq s outer then None else Some (here (BadValue Differs))
a_same_text outer (array ds) = Some (here WrongKind)
a_same_text outer (object ms) = Some (here WrongKind)
