-- The methods of artifacts: their forms, and what a body asks for by them.
use Rattle.std.proofs.Common.{arith}
use Rattle.field_kinds.specs.Requests.{RequestForm}
use Rattle.field_kinds.proofs.ReadLaws.{value_of_text}
use Rattle.field_kinds.proofs.RequestLaws.{IsLawful}
use Rattle.form_fields.proofs.RequestLaws.{request_formed, request_lawful}
use Rattle.result_forms.proofs.MethodLaws.{asks_for_one, asks_of_form}
use Rattle.artifact_forms.specs.Laws.{IsSound}
use Rattle.artifact_forms.specs.Methods.{artifacts_form, artifact_form, list_form}
use Rattle.artifact_forms.proofs.BatchLaws.{batch_are, batch_fields, batch_made}
use Rattle.artifact_forms.proofs.ListLaws.{list_are, list_fields, list_made, told_form}
use Rattle.artifact_forms.proofs.NamedLaws.{named_are, named_fields, named_made}

pub artifacts_lawful : IsLawful artifacts_form
artifacts_lawful =
    request_lawful artifacts_form batch_fields batch_made batch_are (request_formed artifacts_form batch_fields batch_made batch_are) (omega arith)

pub artifact_lawful : IsLawful artifact_form
artifact_lawful =
    request_lawful artifact_form named_fields named_made named_are (request_formed artifact_form named_fields named_made named_are) (omega arith)

told_lawful : IsLawful told_form
told_lawful =
    let asked = request_formed told_form list_fields list_made list_are in
    request_lawful told_form list_fields list_made list_are (λ d q none is. (asked d q none is).0) (omega arith)

pub list_lawful : IsLawful list_form
list_lawful = record {
  one = told_lawful.one;
  there = told_lawful.there;
  formed = told_lawful.asked;
  asked = told_lawful.asked;
  plain = told_lawful.plain;
}

pub sound : {Q : Type 0} (f : RequestForm Q) → IsLawful f → IsSound f
sound f law = record {
  one = asks_for_one f law;
  there = λ body d json none.
      let there = law.there d (value_of_text body d json.0 json.1) none in
      (there.0, record { value = d; json = json; no_fault = none; meant = there.1 });
  formed = asks_of_form f law;
  plain = λ q. let p = law.plain q in (p.no_float, p.deep);
}
