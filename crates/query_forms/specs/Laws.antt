-- Laws of the forms of queries.
use Rattle.std.specs.Prelude.{◌≡◌, ℕ, List, None}
use Rattle.serde_json.specs.Data.{Data}
use Rattle.json_fields.specs.Fields.{IsJson}
use Rattle.field_kinds.specs.Requests.{RequestForm}
use Rattle.result_forms.specs.Laws.{AsksBy, AsksForOne, AsksOfForm, WritesPlain}
use Rattle.query_forms.specs.Results.{results_method, results_query, results_form}
use Rattle.query_forms.specs.Tokens.{query_in}
use Rattle.query_forms.specs.Variants.{variants_method, variants_query, variants_form}

-- A body whose value has no fault asks for something.
abbrev pub AsksUnlessFaulty : {Q : Type 0} → RequestForm Q → Type 0
AsksUnlessFaulty {Q} f =
    (body : List ℕ) (d : Data) → IsJson body d → f.fault d ≡ None → (q : Q) × AsksBy f body q

-- A body that asks for something has no fault.
abbrev pub NeverBoth : {Q : Type 0} → RequestForm Q → Type 0
NeverBoth {Q} f =
    (body : List ℕ) (d : Data) (q : Q) → IsJson body d → AsksBy f body q → f.fault d ≡ None

-- Each body asks for one request or has one fault, which is the first of its value; what it asks
-- for is of its form; and what is written of a request has no float and nests little.
pub record IsReadOneWay {Q : Type 0} (f : RequestForm Q) : Type 0 where
  pub one : AsksForOne f
  pub unless_faulty : AsksUnlessFaulty f
  pub never_both : NeverBoth f
  pub of_form : AsksOfForm f
  pub plain : WritesPlain f

-- The names in a body, as they are written, are those of the invocations that it asks about. So a
-- token is judged beside the query of the request that is read.
abbrev pub ResultsAskedAsWritten : Type 0
ResultsAskedAsWritten =
    (d : Data) (q : _) → results_form.means d q → query_in results_method d ≡ results_query q

abbrev pub VariantsAskedAsWritten : Type 0
VariantsAskedAsWritten =
    (d : Data) (q : _) → variants_form.means d q → query_in variants_method d ≡ variants_query q
