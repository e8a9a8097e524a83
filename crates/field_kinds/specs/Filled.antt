-- Fields that may be unset, where what a kind calls empty counts as unset too.
use Rattle.std.specs.Prelude.{Bool, Option, Some, None}
use Rattle.serde_json.specs.Data.{Data}
use Rattle.json_fields.specs.Names.{NameForm}
use Rattle.json_fields.specs.Fields.{filled, filled_at, fault_optional}
use Rattle.json_fields.specs.declared.faults.FieldFault.{FieldFault}

-- the fault of a value, if there is one
abbrev pub fault_in : (Data → Option FieldFault) → Option Data → Option FieldFault
fault_in fault None = None
fault_in fault (Some d) = fault d

-- a value that may be null or empty
abbrev pub if_filled : (Data → Bool) → (Data → Option FieldFault) → Data → Option FieldFault
if_filled empty fault d = fault_in fault (filled empty d)

-- a field that may be unset, null or empty
abbrev pub optional_filled : NameForm → (Data → Bool) → (Data → Option FieldFault) → Data
    → Option FieldFault
optional_filled n empty fault d = fault_optional n fault (filled_at n empty d)
