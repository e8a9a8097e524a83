-- Requests to show one result, made of their one field.
use Rattle.std.proofs.Common.{refl, arith}
use Rattle.names_realms.specs.ResultNames.{IsResultName, result_name, result_name_fault}
use Rattle.names_realms.specs.declared.result_names.ResultName.{ResultName}
use Rattle.json_fields.proofs.SpellLaws.{result_name_spelled}
use Rattle.field_kinds.proofs.RequestLaws.{IsLawful}
use Rattle.form_fields.specs.Fields.{Fields, Kind, last, required_field}
use Rattle.form_fields.specs.Kinds.{text_kind}
use Rattle.form_fields.specs.Laws.{AreLawful, IsLawfulKind, IsMadeOf}
use Rattle.form_fields.proofs.FieldLaws.{last_lawful, required_lawful}
use Rattle.form_fields.proofs.KindLaws.{text_lawful}
use Rattle.form_fields.proofs.RequestLaws.{read_again, request_formed, request_lawful}
use Rattle.result_forms.specs.Laws.{IsReadAgain}
use Rattle.query_forms.specs.Names as name
use Rattle.query_forms.specs.Single.{a_single, single_form}
use Rattle.query_forms.specs.declared.single.GetTestResult.{GetTestResult}
use Rattle.query_forms.proofs.ResultNameLaws.{result_name_form, result_name_one, result_name_there}

abbrev named_kind : Kind ResultName
named_kind = text_kind result_name_fault (λ text r. IsResultName r text) (λ r. IsResultName r (result_name r)) result_name

named_lawful : IsLawfulKind named_kind
named_lawful =
    text_lawful result_name_fault (λ text r. IsResultName r text) _ result_name refl result_name_one result_name_there result_name_form result_name_spelled

abbrev single_fields : Fields ResultName
single_fields = last (required_field name.name named_kind)

single_are : AreLawful single_fields
single_are = last_lawful _ (required_lawful name.name named_kind named_lawful)

single_made : IsMadeOf single_form single_fields
unfolding a_single
single_made = record {
  made = λ r. record { name = r };
  parts = λ q. q.name;
  held = λ r. refl;
  whole = λ d q is. refl;
  faults = λ d. refl;
  told = λ d q is. is;
  said = λ d q of is. is;
  in_form = λ q of. (of, refl);
  of_form = λ r of. of.0;
  members = λ q. refl;
  apart = refl;
}

pub single_again : (q : GetTestResult) → single_form.CanBeAsked q → IsReadAgain single_form q
single_again = read_again single_form single_fields single_made single_are

pub single_lawful : IsLawful single_form
single_lawful =
    request_lawful single_form single_fields single_made single_are (request_formed single_form single_fields single_made single_are) (omega arith)
