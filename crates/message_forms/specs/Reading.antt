-- What a request asks for by its service, its method and its body, or what is wrong with it.
use Rattle.std.specs.Prelude.{◌≡◌, ℕ, List, Some, None}
use Rattle.serde_json.specs.Data.{Data}
use Rattle.json_fields.specs.Fields.{IsJson}
use Rattle.json_fields.specs.declared.faults.FaultKind.{FaultKind}
use Rattle.json_fields.specs.declared.faults.FaultKind.TheVariants as kind
use Rattle.json_fields.specs.declared.faults.FieldFault.{FieldFault}
use Rattle.json_fields.specs.declared.faults.ReadFault.{ReadFault}
use Rattle.json_fields.specs.declared.faults.ReadFault.TheVariants as read
use Rattle.json_fields.specs.declared.names.Step.{Step}
use Rattle.message_forms.specs.Methods.{method_of, request_fault, Means}
use Rattle.message_forms.specs.declared.requests.Method.{Method}
use Rattle.message_forms.specs.declared.reading.FormFault.{FormFault}
use Rattle.message_forms.specs.declared.reading.FormFault.TheVariants.{NoMethod, NotJson, WrongKind, Missing, BadValue, Memory}
use Rattle.message_forms.specs.declared.requests.Request.{Request}

-- a fault of a field, as one of the request
abbrev pub field_fault : FaultKind → List Step → FormFault
field_fault kind.WrongKind path = WrongKind path
field_fault kind.Missing path = Missing path
field_fault (kind.BadValue why) path = BadValue path why

-- what is told of a fault in reading
abbrev pub told_of : ReadFault → FormFault
told_of read.Memory = Memory
told_of (read.Field f) = field_fault f.kind f.path

-- This is the first fault of the value's fields.
pub record IsFieldFault (method : Method) (value : Data) (fault : FormFault) : Type 0 where
  pub found : FieldFault
  pub is_first : request_fault method value ≡ Some found
  pub told : fault ≡ field_fault found.kind found.path

-- The method is there, the body is JSON, its value has no fault by the method's fields, and it asks
-- for this.
pub record Asks (service name body : List ℕ) (request : Request) : Type 0 where
  pub method : Method
  pub named : method_of service name ≡ Some method
  pub value : Data
  pub json : IsJson body value
  pub no_fault : request_fault method value ≡ None
  pub meant : Means method value request

-- Else this is the first thing that is wrong: there is no such method, or the body is no JSON, or a
-- field is at fault.
pub data HasFault (service name body : List ℕ) (fault : FormFault) : Type 0 where
  no_method : method_of service name ≡ None → fault ≡ NoMethod → HasFault service name body fault
  not_json : (method : Method) → method_of service name ≡ Some method
      → ((d : Data) → ¬ IsJson body d) → fault ≡ NotJson
      → HasFault service name body fault
  in_field : (method : Method) → method_of service name ≡ Some method → (d : Data) → IsJson body d
      → IsFieldFault method d fault
      → HasFault service name body fault
