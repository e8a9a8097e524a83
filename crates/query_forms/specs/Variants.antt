-- Requests for a page of the verdicts of the results that invocations reach.
use Rattle.std.specs.Prelude.{ℕ, ◌≤◌, List, [], ◌∷◌, codes, map, Option}
use Rattle.std.specs.Option.{ForSome}
use Rattle.serde_json.specs.Data.{Data, string, object, Members, no_members}
use Rattle.names_realms.specs.Names.{invocation_name}
use Rattle.json_fields.specs.Fields.{optional, fault_of}
use Rattle.json_fields.specs.Kinds.{an_object}
use Rattle.json_fields.specs.Writing.{list_data, put_required, put_optional}
use Rattle.json_fields.specs.declared.faults.FieldFault.{FieldFault}
use Rattle.field_kinds.specs.Numbers.{most_of_page}
use Rattle.field_kinds.specs.OutsideProfile.{an_empty_message, an_empty_text}
use Rattle.field_kinds.specs.Requests.{RequestForm}
use Rattle.invocation_forms.specs.Named.{name_data}
use Rattle.page_tokens.specs.Tokens.{query_hash}
use Rattle.query_forms.specs.Names as name
use Rattle.query_forms.specs.Lists.{names_of_query, AreNamed, AreOfForm}
use Rattle.query_forms.specs.Sizes.{a_size, IsSize, put_size}
use Rattle.query_forms.specs.Tokens.{verdict_cursors, a_page_token, IsPageToken, IsCursorOfForm, token_text}
use Rattle.query_forms.specs.declared.variants.QueryTestVariants.{QueryTestVariants}

abbrev pub variants_method : List ℕ
variants_method = codes "QueryTestVariants"

-- names, how many results of a verdict are shown, a size, a token, and a predicate, a mask and an
-- order, which the profile leaves out
abbrev pub variants_fields : List (Data → Option FieldFault)
variants_fields =
    an_object
    ∷ names_of_query
    ∷ a_size name.result_limit
    ∷ a_size name.page_size
    ∷ a_page_token verdict_cursors variants_method
    ∷ optional name.predicate an_empty_message
    ∷ optional name.read_mask an_empty_message
    ∷ optional name.order_by an_empty_text
    ∷ []

unfoldable pub a_variants_query : Data → Option FieldFault
a_variants_query d = fault_of variants_fields d

-- A value asks for a page of the verdicts of what these invocations reach: from the start, or
-- behind the verdict of the token.
pub record IsVariantsQuery (d : Data) (q : QueryTestVariants) : Type 0 where
  pub invocations_are : AreNamed d q.invocations
  pub result_limit_is : IsSize name.result_limit d q.result_limit
  pub page_size_is : IsSize name.page_size d q.page_size
  pub page_token_is : IsPageToken verdict_cursors variants_method d q.page_token

-- the query that a token of the request is of: the method, and the names
abbrev pub variants_query : QueryTestVariants → List ℕ
variants_query q = query_hash variants_method (map invocation_name q.invocations)

-- what is written of the request, with what is unset or 0 left out
abbrev pub variants_members : QueryTestVariants → Members
variants_members q =
    put_required name.invocations (list_data name_data) q.invocations
    (put_size name.result_limit q.result_limit
    (put_size name.page_size q.page_size
    (put_optional name.page_token
    (λ c. string (token_text verdict_cursors (variants_query q) c)) q.page_token no_members)))

abbrev pub variants_data : QueryTestVariants → Data
variants_data q = object (variants_members q)

pub record IsVariantsOfForm (q : QueryTestVariants) : Type 0 where
  pub invocations : AreOfForm q.invocations
  pub result_limit : q.result_limit ≤ most_of_page
  pub page_size : q.page_size ≤ most_of_page
  pub page_token : ForSome q.page_token (IsCursorOfForm verdict_cursors)

abbrev pub variants_form : RequestForm QueryTestVariants
variants_form = record {
  fault = a_variants_query;
  means = IsVariantsQuery;
  json = variants_data;
  OfForm = IsVariantsOfForm;
  CanBeAsked = IsVariantsOfForm;
}
