-- Lists of artifacts, made of their fields. The page token is judged beside the parent.
use Rattle.std.proofs.Common.{◌≡◌, ℕ, List, [], ◌∷◌, Option, Some, None, option_map, refl, sym, ap, subst, arith}
use Rattle.std.specs.Option.{ForSome}
use Rattle.serde_json.specs.Data.{Data, string}
use Rattle.names_realms.specs.Parents.{parent_name}
use Rattle.names_realms.specs.declared.parents.Parent.{Parent}
use Rattle.json_fields.specs.Faults.{first}
use Rattle.json_fields.specs.Fields.{filled_at, optional, Holds, HoldsMaybe}
use Rattle.json_fields.specs.Kinds.{empty_text}
use Rattle.json_fields.specs.declared.faults.FieldFault.{FieldFault}
use Rattle.field_kinds.specs.Filled.{optional_filled}
use Rattle.field_kinds.specs.Numbers.{a_whole, most_of_page}
use Rattle.field_kinds.specs.Requests.{RequestForm}
use Rattle.page_tokens.specs.declared.kinds.ArtifactCursor.{ArtifactCursor}
use Rattle.form_fields.specs.Fields.{Fields, beside, both, filled_field, last, required_field}
use Rattle.form_fields.specs.Kinds.{whole_field}
use Rattle.form_fields.specs.Laws.{AreLawful, IsMadeOf}
use Rattle.form_fields.specs.Members.{object_of}
use Rattle.form_fields.proofs.FieldLaws.{beside_lawful, both_lawful, filled_lawful, last_lawful, required_lawful}
use Rattle.artifact_forms.specs.Names as name
use Rattle.artifact_forms.specs.Parents.{IsParentOf}
use Rattle.artifact_forms.specs.Tokens.{a_token, list_query, IsTokenOf, Tells, token_text}
use Rattle.artifact_forms.specs.Listed.{query_in, a_page_token, a_list_request, IsList, query_of, list_request_data, IsListOfForm}
use Rattle.artifact_forms.specs.declared.listed.ListArtifacts.{ListArtifacts}
use Rattle.artifact_forms.proofs.FieldLaws.{page_json, page_size_lawful}
use Rattle.artifact_forms.proofs.ParentLaws.{parent_kind, parent_lawful, text_of_parent}
use Rattle.artifact_forms.proofs.TokenLaws.{list_query_size, token_kind, token_lawful}

abbrev query_for : Parent → List ℕ
query_for p = list_query (parent_name p)

-- the fields behind the parent
abbrev page_fields : Parent → Fields (ℕ × Option ArtifactCursor)
page_fields p = both (whole_field name.page_size most_of_page page_json) (last (filled_field name.page_token (token_kind (query_for p))))

page_are : (p : Parent) → AreLawful (page_fields p)
page_are p =
    both_lawful _ _ (page_size_lawful name.page_size)
    (last_lawful _ (filled_lawful name.page_token (token_kind (query_for p)) (token_lawful (query_for p) (list_query_size (parent_name p))) (λ c is. refl)))

abbrev page_fault : Data → Option FieldFault
page_fault d = first (optional name.page_size (a_whole most_of_page) d) (first (a_page_token d) None)

abbrev pub list_fields : Fields (Parent × (ℕ × Option ArtifactCursor))
list_fields = beside (required_field name.parent parent_kind) page_fields page_fault (name.page_size ∷ name.page_token ∷ []) 0

-- of this query, as it is written
asked_as : (d : Data) (p : Parent) → Holds IsParentOf (filled_at name.parent empty_text d) p → query_in d ≡ query_for p
asked_as d p is = ap list_query (text_of_parent name.parent d p is)

same_fault : (d : Data) (p : Parent) → Holds IsParentOf (filled_at name.parent empty_text d) p → page_fault d ≡ (page_fields p).fault d
same_fault d p is =
    let size : Option FieldFault = optional name.page_size (a_whole most_of_page) d in
    ap (λ (query : List ℕ). first size (first (optional_filled name.page_token empty_text (a_token query) d) None)) (asked_as d p is)

pub list_are : AreLawful list_fields
list_are =
    beside_lawful (required_field name.parent parent_kind) page_fields page_fault (name.page_size ∷ name.page_token ∷ []) 0
    (required_lawful name.parent parent_kind parent_lawful) page_are (λ d p none is. same_fault d p is) (λ p. refl) (λ p. omega arith)

-- The form of requests whose token's text tells its place, as the text of each that is of the form
-- of lists does.
abbrev pub told_form : RequestForm ListArtifacts
told_form = record {
  fault = a_list_request;
  means = IsList;
  json = list_request_data;
  OfForm = λ q. IsListOfForm q × ForSome q.page_token (λ c. Tells (query_of q) (token_text (query_of q) c) c);
  CanBeAsked = IsListOfForm;
}

abbrev HoldsToken : Data → Option ArtifactCursor → List ℕ → Type 0
HoldsToken d token query = HoldsMaybe (IsTokenOf query) (filled_at name.page_token empty_text d) token

pub list_made : IsMadeOf told_form list_fields
unfolding a_list_request
list_made = record {
  made = λ v. record { parent = v.0; page_size = v.1.0; page_token = v.1.1 };
  parts = λ q. (q.parent, (q.page_size, q.page_token));
  held = λ v. refl;
  whole = λ d q is. refl;
  faults = λ d. refl;
  told = λ d q is. (is.parent_is, (is.size_is, subst (HoldsToken d q.page_token) (asked_as d q.parent is.parent_is) is.token_is));
  said = λ d q of is. record {
    parent_is = is.0;
    size_is = is.1.0;
    token_is = subst (HoldsToken d q.page_token) (sym (asked_as d q.parent is.0)) is.1.1;
  };
  in_form = λ q of. ((of.0.parent, refl), (of.0.size, of.1));
  of_form = λ v of. (record { parent = of.0.0; size = of.1.0; token = λ c e. (of.1.1 c e).are.0 }, of.1.1);
  members = λ q. refl;
  apart = refl;
}
