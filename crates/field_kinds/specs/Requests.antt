-- What a method's requests are.
use Rattle.std.specs.Prelude.{Option}
use Rattle.serde_json.specs.Data.{Data}
use Rattle.json_fields.specs.declared.faults.FieldFault.{FieldFault}

-- The form of a method's requests: the first fault of a value, in the order of the method's fields;
-- what a value without a fault asks for; what is written of a request; where all that a request
-- names or gives is of its grammar; and which requests a body can ask for at all.
pub record RequestForm (Q : Type 0) : Type 1 where
  pub fault : Data → Option FieldFault
  pub means : Data → Q → Type 0
  pub json : Q → Data
  pub OfForm : Q → Type 0
  pub CanBeAsked : Q → Type 0
