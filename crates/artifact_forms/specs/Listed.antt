-- What asks for a page of the artifacts of a parent.
use Rattle.std.specs.Prelude.{◌≤◌, ◌==◌, ℕ, if◌then◌else◌, min, List, [], ◌∷◌, Option, Some, None, option_map}
use Rattle.std.specs.Option.{ForSome}
use Rattle.serde_json.specs.Data.{Data, number, unsigned, string}
use Rattle.names_realms.specs.Names.{IsArtifactId}
use Rattle.names_realms.specs.Parents.{parent_name, IsParentName}
use Rattle.json_fields.specs.Names.{NameForm}
use Rattle.json_fields.specs.Fields.{required, optional, fault_of, filled_at, set_at, Holds, HoldsMaybe}
use Rattle.json_fields.specs.Kinds.{an_object, empty_text}
use Rattle.json_fields.specs.declared.faults.FieldFault.{FieldFault}
use Rattle.field_kinds.specs.Defaults.{HoldsOr}
use Rattle.field_kinds.specs.Filled.{optional_filled}
use Rattle.field_kinds.specs.Numbers.{a_whole, IsSaid, most_of_page}
use Rattle.result_forms.specs.Fields.{text_in}
use Rattle.form_fields.specs.Members.{object_of}
use Rattle.artifact_forms.specs.Names as name
use Rattle.artifact_forms.specs.Parents.{a_parent, IsParentOf}
use Rattle.artifact_forms.specs.Tokens.{a_token, IsTokenOf, list_query, token_text}
use Rattle.artifact_forms.specs.declared.listed.ListArtifacts.{ListArtifacts}

-- what the request asks, by the parent as it is written
abbrev pub query_in : Data → List ℕ
query_in d = list_query (text_in (set_at name.parent d))

abbrev pub a_page_token : Data → Option FieldFault
a_page_token d = optional_filled name.page_token empty_text (a_token (query_in d)) d

-- a parent, the size of a page, and a token of this query
abbrev pub list_fields : List (Data → Option FieldFault)
list_fields =
    an_object
    ∷ required name.parent empty_text a_parent
    ∷ optional name.page_size (a_whole most_of_page)
    ∷ a_page_token
    ∷ []

unfoldable pub a_list_request : Data → Option FieldFault
a_list_request d = fault_of list_fields d

-- The value asks for this page.
pub record IsList (d : Data) (q : ListArtifacts) : Type 0 where
  pub parent_is : Holds IsParentOf (filled_at name.parent empty_text d) q.parent
  pub size_is : HoldsOr IsSaid 0 (set_at name.page_size d) q.page_size
  pub token_is :
      HoldsMaybe (IsTokenOf (query_in d)) (filled_at name.page_token empty_text d) q.page_token

-- The query of a request, and what is written of it. A size of 0 is left out.
abbrev pub query_of : ListArtifacts → List ℕ
query_of q = list_query (parent_name q.parent)

abbrev pub size_shown : ℕ → Option Data
size_shown n = if n == 0 then None else Some (number (unsigned n))

abbrev pub list_members : ListArtifacts → List (NameForm × Option Data)
list_members q =
    (name.parent, Some (string (parent_name q.parent)))
    ∷ (name.page_size, size_shown q.page_size)
    ∷ (name.page_token, option_map (λ c. string (token_text (query_of q) c)) q.page_token)
    ∷ []

abbrev pub list_request_data : ListArtifacts → Data
list_request_data q = object_of (list_members q)

-- How many artifacts a page has at most: 100 where the request doesn't say, and never more than
-- 1,000.
abbrev pub counted_size : ℕ → ℕ
counted_size n = if n == 0 then 100 else min n 1000

-- All that the request names or gives is of its form.
pub record IsListOfForm (q : ListArtifacts) : Type 0 where
  pub parent : IsParentName q.parent (parent_name q.parent)
  pub size : q.page_size ≤ most_of_page
  pub token : ForSome q.page_token (λ c. IsArtifactId c.artifact)
