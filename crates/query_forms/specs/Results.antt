-- Requests for a page of the results that invocations reach.
use Rattle.std.specs.Prelude.{ℕ, ◌≤◌, List, [], ◌∷◌, codes, map, Option}
use Rattle.std.specs.Option.{ForSome}
use Rattle.serde_json.specs.Data.{Data, string, object, Members, no_members}
use Rattle.names_realms.specs.Names.{invocation_name}
use Rattle.json_fields.specs.Fields.{optional, fault_of}
use Rattle.json_fields.specs.Kinds.{an_object}
use Rattle.json_fields.specs.Writing.{list_data, put_required, put_optional}
use Rattle.json_fields.specs.declared.faults.FieldFault.{FieldFault}
use Rattle.field_kinds.specs.Numbers.{most_of_page}
use Rattle.field_kinds.specs.OutsideProfile.{an_empty_message}
use Rattle.field_kinds.specs.Requests.{RequestForm}
use Rattle.invocation_forms.specs.Named.{name_data}
use Rattle.page_tokens.specs.Tokens.{query_hash}
use Rattle.query_forms.specs.Names as name
use Rattle.query_forms.specs.Lists.{names_of_query, AreNamed, AreOfForm}
use Rattle.query_forms.specs.Sizes.{a_size, IsSize, put_size}
use Rattle.query_forms.specs.Tokens.{result_cursors, a_page_token, IsPageToken, IsCursorOfForm, token_text}
use Rattle.query_forms.specs.declared.results.QueryTestResults.{QueryTestResults}

abbrev pub results_method : List ℕ
results_method = codes "QueryTestResults"

-- names, a size, a token, and a predicate and a mask, which the profile leaves out
abbrev pub results_fields : List (Data → Option FieldFault)
results_fields =
    an_object
    ∷ names_of_query
    ∷ a_size name.page_size
    ∷ a_page_token result_cursors results_method
    ∷ optional name.predicate an_empty_message
    ∷ optional name.read_mask an_empty_message
    ∷ []

unfoldable pub a_results_query : Data → Option FieldFault
a_results_query d = fault_of results_fields d

-- A value asks for a page of the results that these invocations reach: from the start, or behind
-- the result of the token.
pub record IsResultsQuery (d : Data) (q : QueryTestResults) : Type 0 where
  pub invocations_are : AreNamed d q.invocations
  pub page_size_is : IsSize name.page_size d q.page_size
  pub page_token_is : IsPageToken result_cursors results_method d q.page_token

-- the query that a token of the request is of: the method, and the names
abbrev pub results_query : QueryTestResults → List ℕ
results_query q = query_hash results_method (map invocation_name q.invocations)

-- what is written of the request, with what is unset or 0 left out
abbrev pub results_members : QueryTestResults → Members
results_members q =
    put_required name.invocations (list_data name_data) q.invocations
    (put_size name.page_size q.page_size
    (put_optional name.page_token
    (λ c. string (token_text result_cursors (results_query q) c)) q.page_token no_members))

abbrev pub results_data : QueryTestResults → Data
results_data q = object (results_members q)

pub record IsResultsOfForm (q : QueryTestResults) : Type 0 where
  pub invocations : AreOfForm q.invocations
  pub page_size : q.page_size ≤ most_of_page
  pub page_token : ForSome q.page_token (IsCursorOfForm result_cursors)

abbrev pub results_form : RequestForm QueryTestResults
results_form = record {
  fault = a_results_query;
  means = IsResultsQuery;
  json = results_data;
  OfForm = IsResultsOfForm;
  CanBeAsked = IsResultsOfForm;
}
