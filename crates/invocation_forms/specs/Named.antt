-- What names an invocation, as a request to end or to show it, and the invocation in an update.
use Rattle.std.specs.Prelude.{ℕ, List, [], ◌∷◌, Option, ⊤}
use Rattle.serde_json.specs.Data.{Data, string, object, no_members}
use Rattle.names_realms.specs.Names.{invocation_name, invocation_name_fault, IsInvocationId, IsInvocationName}
use Rattle.json_fields.specs.Fields.{required, fault_of, filled_at, Holds}
use Rattle.json_fields.specs.Kinds.{an_object, empty_text}
use Rattle.json_fields.specs.Texts.{a_text, IsText}
use Rattle.json_fields.specs.Writing.{put_required}
use Rattle.json_fields.specs.declared.faults.FieldFault.{FieldFault}
use Rattle.invocation_forms.specs.Names as name
use Rattle.field_kinds.specs.Requests.{RequestForm}
use Rattle.invocation_forms.specs.declared.named.NamedInvocation.{NamedInvocation}

-- an invocation's name, and the id that it names
abbrev pub an_invocation_name : Data → Option FieldFault
an_invocation_name = a_text invocation_name_fault

abbrev pub IsNameOf : Data → List ℕ → Type 0
IsNameOf = IsText (λ text id. IsInvocationName id text)

abbrev pub name_data : List ℕ → Data
name_data id = string (invocation_name id)

-- of what names an invocation: its name
abbrev pub named_fields : List (Data → Option FieldFault)
named_fields = an_object ∷ required name.name empty_text an_invocation_name ∷ []

unfoldable pub a_named : Data → Option FieldFault
a_named d = fault_of named_fields d

abbrev pub IsNamed : Data → List ℕ → Type 0
IsNamed d id = Holds IsNameOf (filled_at name.name empty_text d) id

abbrev pub named_data : List ℕ → Data
named_data id = object (put_required name.name name_data id no_members)

-- requests that say nothing else
abbrev pub named_form : RequestForm NamedInvocation
named_form = record {
  fault = a_named;
  means = λ d q. IsNamed d q.id;
  json = λ q. named_data q.id;
  OfForm = λ q. IsInvocationId q.id;
  CanBeAsked = λ q. ⊤;
}
