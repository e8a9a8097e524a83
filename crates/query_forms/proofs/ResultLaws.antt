-- Requests for a page of results, made of their fields.
use Rattle.std.proofs.Common.{◌≡◌, ℕ, false, List, [], ◌∷◌, Option, None, IfSome, refl, sym, ap, subst, arith}
use Rattle.std.specs.Prelude.{⊤}
use Rattle.std.specs.Option.{ForSome}
use Rattle.serde_json.specs.Data.{Data, string}
use Rattle.json_fields.specs.Faults.{first}
use Rattle.json_fields.specs.Fields.{filled_at, optional, HoldsMaybe}
use Rattle.json_fields.specs.Kinds.{an_object, empty_text}
use Rattle.json_fields.specs.Writing.{IsWritten}
use Rattle.json_fields.specs.declared.faults.FieldFault.{FieldFault}
use Rattle.json_fields.proofs.FormLaws.{GivesForm}
use Rattle.field_kinds.specs.Filled.{optional_filled}
use Rattle.field_kinds.specs.OutsideProfile.{an_empty_message}
use Rattle.field_kinds.specs.Requests.{RequestForm}
use Rattle.field_kinds.proofs.RequestLaws.{IsLawful}
use Rattle.form_fields.specs.Fields.{Fields, beside, both, last, unused_field}
use Rattle.form_fields.specs.Laws.{AreLawful, IsMadeOf}
use Rattle.form_fields.proofs.FieldLaws.{after_object, beside_lawful, both_lawful, last_lawful, unused_lawful}
use Rattle.form_fields.proofs.MemberLaws.{put_optional_is}
use Rattle.form_fields.proofs.RequestLaws.{read_again, request_formed, request_lawful}
use Rattle.page_tokens.specs.declared.kinds.ResultCursor.{ResultCursor}
use Rattle.result_forms.specs.Laws.{IsReadAgain}
use Rattle.query_forms.specs.Names as name
use Rattle.query_forms.specs.Lists.{names_of_query}
use Rattle.query_forms.specs.Results.{IsResultsOfForm, a_results_query, results_form, results_method, results_query}
use Rattle.query_forms.specs.Sizes.{a_size}
use Rattle.query_forms.specs.Tokens.{IsCursor, a_page_token, a_token, result_cursors, token_text}
use Rattle.query_forms.specs.declared.results.QueryTestResults.{QueryTestResults}
use Rattle.query_forms.proofs.ListLaws.{asked_as_written, names_are, names_field, names_in_form, names_of_form}
use Rattle.query_forms.proofs.SizeLaws.{put_size_is, size_are, size_field}
use Rattle.query_forms.proofs.TokenLaws.{HasToken, query_of, token_are, token_field, tokens_of_form, tokens_written, result_cursor_lawful}

-- the names and the size of a page
abbrev asked_fields : Fields (List (List ℕ) × ℕ)
asked_fields = both names_field (size_field name.page_size)

asked_are : AreLawful asked_fields
asked_are = both_lawful names_field (size_field name.page_size) names_are (size_are name.page_size)

-- and what is judged beside the names, or is outside the profile
abbrev rest_fields : List (List ℕ) → Fields (Option ResultCursor × (⊤ × ⊤))
rest_fields ids =
    both (token_field result_cursors (query_of results_method ids))
    (both (unused_field name.predicate an_empty_message) (last (unused_field name.read_mask an_empty_message)))

rest_are : (ids : List (List ℕ)) → AreLawful (rest_fields ids)
rest_are ids =
    both_lawful _ _ (token_are result_cursors result_cursor_lawful results_method ids)
    (both_lawful _ _ (unused_lawful name.predicate an_empty_message) (last_lawful _ (unused_lawful name.read_mask an_empty_message)))

abbrev unread : Data → Option FieldFault
unread d = first (optional name.predicate an_empty_message d) (first (optional name.read_mask an_empty_message d) None)

abbrev rest_fault : Data → Option FieldFault
rest_fault d = first (a_page_token result_cursors results_method d) (unread d)

same_rest : (d : Data) (v : List (List ℕ) × ℕ) → asked_fields.means d v → rest_fault d ≡ (rest_fields v.0).fault d
same_rest d v is =
    ap (λ (query : List ℕ). first (optional_filled name.page_token empty_text (a_token result_cursors query) d) (unread d)) (asked_as_written results_method d v.0 is.0)

abbrev results_fields : Fields ((List (List ℕ) × ℕ) × (Option ResultCursor × (⊤ × ⊤)))
results_fields =
    beside asked_fields (λ v. rest_fields v.0) rest_fault (name.page_token ∷ name.predicate ∷ name.read_mask ∷ []) 0

results_are : AreLawful results_fields
results_are =
    beside_lawful asked_fields (λ v. rest_fields v.0) rest_fault (name.page_token ∷ name.predicate ∷ name.read_mask ∷ []) 0 asked_are (λ v. rest_are v.0)
    (λ d v none is. same_rest d v is) (λ v. refl) (λ v. omega arith)

-- the form of requests whose cursor has a token, as it has where it is written or read
abbrev told_form : RequestForm QueryTestResults
told_form = record {
  fault = results_form.fault;
  means = results_form.means;
  json = results_form.json;
  OfForm = λ q. IsResultsOfForm q × ForSome q.page_token (HasToken result_cursors (results_query q));
  CanBeAsked = IsResultsOfForm;
}

abbrev IsTokenAsked : List ℕ → Data → Option ResultCursor → Type 0
IsTokenAsked query d o = HoldsMaybe (IsCursor result_cursors query) (filled_at name.page_token empty_text d) o

results_made : IsMadeOf told_form results_fields
unfolding a_results_query
results_made = record {
  made = λ v. record { invocations = v.0.0; page_size = v.0.1; page_token = v.1.0 };
  parts = λ q. ((q.invocations, q.page_size), (q.page_token, (tt, tt)));
  held = λ v. refl;
  whole = λ d q is. refl;
  faults = λ d. ap (first (an_object d)) (sym (after_object (names_of_query d) (a_size name.page_size d) (rest_fault d)));
  told = λ d q is.
      let token = subst (λ (query : List ℕ). IsTokenAsked query d q.page_token) (asked_as_written results_method d q.invocations is.invocations_are) is.page_token_is in
      ((is.invocations_are, is.page_size_is), (token, (tt, tt)));
  said = λ d q of is. record {
    invocations_are = is.0.0;
    page_size_is = is.0.1;
    page_token_is = subst (λ (query : List ℕ). IsTokenAsked query d q.page_token) (sym (asked_as_written results_method d q.invocations is.0.0)) is.1.0;
  };
  in_form = λ q of. ((names_in_form q.invocations of.0.invocations, of.0.page_size), (of.1, (tt, tt)));
  of_form = λ v of. (
    record {
      invocations = names_of_form v.0.0 of.0.0;
      page_size = of.0.1;
      page_token = tokens_of_form result_cursors (query_of results_method v.0.0) v.1.0 of.1.0;
    },
    of.1.0,
  );
  members = λ q.
      rw (
        put_size_is name.page_size q.page_size,
        put_optional_is name.page_token (λ c. string (token_text result_cursors (results_query q) c)) q.page_token,
      ) refl;
  apart = refl;
}

results_asked : GivesForm told_form.fault told_form.means told_form.CanBeAsked
results_asked d q none is = (request_formed told_form results_fields results_made results_are d q none is).0

pub results_lawful : IsLawful results_form
results_lawful =
    let law = request_lawful told_form results_fields results_made results_are results_asked (omega arith) in
    record { one = law.one; there = law.there; formed = results_asked; asked = results_asked; plain = law.plain }

-- what is written is read again, where the token is written so
pub results_again : (q : QueryTestResults) → results_form.CanBeAsked q
    → IfSome q.page_token (λ c. IsWritten (a_token result_cursors (results_query q)) (IsCursor result_cursors (results_query q)) empty_text (λ _. false) c
    (string (token_text result_cursors (results_query q) c))) → IsReadAgain results_form q
results_again q is w = read_again told_form results_fields results_made results_are q (is, tokens_written result_cursors (results_query q) q.page_token w)
