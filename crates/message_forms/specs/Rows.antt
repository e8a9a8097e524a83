-- What a row of the table of methods says.
use Rattle.std.specs.Prelude.{ℕ, List}
use Rattle.query_forms.specs.FieldKinds.Requests.{RequestForm}
use Rattle.message_forms.specs.declared.requests.Request.{Request}

-- A method: the service that has it, as pRPC names it, its name there, and its requests.
pub record Row : Type 1 where
  pub service : List ℕ
  pub name : List ℕ
  pub Said : Type 0
  pub form : RequestForm Said
  pub asks : Said → Request
