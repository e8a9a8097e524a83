-- Requests to show one result, by its name.
use Rattle.std.specs.Prelude.{List, [], ◌∷◌, Option}
use Rattle.serde_json.specs.Data.{Data, string, object, no_members}
use Rattle.names_realms.specs.ResultNames.{IsResultName, result_name, result_name_fault}
use Rattle.names_realms.specs.declared.result_names.ResultName.{ResultName}
use Rattle.json_fields.specs.Fields.{required, fault_of, filled_at, Holds}
use Rattle.json_fields.specs.Kinds.{an_object, empty_text}
use Rattle.json_fields.specs.Texts.{a_text, IsText}
use Rattle.json_fields.specs.Writing.{put_required}
use Rattle.json_fields.specs.declared.faults.FieldFault.{FieldFault}
use Rattle.field_kinds.specs.Requests.{RequestForm}
use Rattle.query_forms.specs.Names as name
use Rattle.query_forms.specs.declared.single.GetTestResult.{GetTestResult}

-- a result's name, and the result that it names
abbrev pub a_result_name : Data → Option FieldFault
a_result_name = a_text result_name_fault

abbrev pub IsResultNamed : Data → ResultName → Type 0
IsResultNamed = IsText (λ text r. IsResultName r text)

abbrev pub single_fields : List (Data → Option FieldFault)
single_fields = an_object ∷ required name.name empty_text a_result_name ∷ []

unfoldable pub a_single : Data → Option FieldFault
a_single d = fault_of single_fields d

-- A value asks for the result that it names.
abbrev pub IsSingle : Data → GetTestResult → Type 0
IsSingle d q = Holds IsResultNamed (filled_at name.name empty_text d) q.name

abbrev pub single_data : GetTestResult → Data
single_data q = object (put_required name.name (λ r. string (result_name r)) q.name no_members)

-- Each part of the name is of its grammar.
abbrev pub IsSingleOfForm : GetTestResult → Type 0
IsSingleOfForm q = IsResultName q.name (result_name q.name)

abbrev pub single_form : RequestForm GetTestResult
single_form = record {
  fault = a_single;
  means = IsSingle;
  json = single_data;
  OfForm = IsSingleOfForm;
  CanBeAsked = IsSingleOfForm;
}
