-- The laws of the three forms.
use Rattle.std.proofs.Common.{◌≡◌, ℕ, List, Some, None, sym, subst, ◌∙◌}
use Rattle.serde_json.specs.Data.{Data}
use Rattle.json_fields.specs.Fields.{IsJson}
use Rattle.field_kinds.specs.Requests.{RequestForm}
use Rattle.field_kinds.proofs.ReadLaws.{value_of_text}
use Rattle.field_kinds.proofs.RequestLaws.{IsLawful}
use Rattle.result_forms.proofs.MethodLaws.{asks_for_one, asks_of_form}
use Rattle.query_forms.specs.Laws.{IsReadOneWay, ResultsAskedAsWritten, VariantsAskedAsWritten}
use Rattle.query_forms.specs.Results.{results_method}
use Rattle.query_forms.specs.Variants.{variants_method}
use Rattle.query_forms.proofs.ListLaws.{asked_as_written}

one_json : (body : List ℕ) (d e : Data) → IsJson body d → IsJson body e → d ≡ e
one_json body d e is also = let both : Some d ≡ Some e = sym is.1 ∙ also.1 in cc

pub read_one_way : {Q : Type 0} (f : RequestForm Q) → IsLawful f → IsReadOneWay f
read_one_way f law = record {
  one = asks_for_one f law;
  unless_faulty = λ body d json none.
      let there = law.there d (value_of_text body d json.0 json.1) none in
      (there.0, record { value = d; json = json; no_fault = none; meant = there.1 });
  never_both = λ body d q json asks. subst (λ (e : Data). f.fault e ≡ None) (one_json body asks.value d asks.json json) asks.no_fault;
  of_form = asks_of_form f law;
  plain = λ q. let p = law.plain q in (p.no_float, p.deep);
}

pub results_as_written : ResultsAskedAsWritten
results_as_written d q is = asked_as_written results_method d q.invocations is.invocations_are

pub variants_as_written : VariantsAskedAsWritten
variants_as_written d q is = asked_as_written variants_method d q.invocations is.invocations_are
