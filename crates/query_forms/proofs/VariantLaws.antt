-- Requests for a page of verdicts, made of their fields.
use Rattle.std.proofs.Common.{◌≡◌, ℕ, false, List, [], ◌∷◌, Option, None, IfSome, refl, sym, ap, subst, ◌∙◌, arith}
use Rattle.std.specs.Prelude.{⊤}
use Rattle.std.specs.Option.{ForSome}
use Rattle.serde_json.specs.Data.{Data, string}
use Rattle.json_fields.specs.Faults.{first}
use Rattle.json_fields.specs.Fields.{filled_at, optional, HoldsMaybe}
use Rattle.json_fields.specs.Kinds.{an_object, empty_text}
use Rattle.json_fields.specs.Writing.{IsWritten}
use Rattle.json_fields.specs.declared.faults.FieldFault.{FieldFault}
use Rattle.json_fields.proofs.FormLaws.{GivesForm}
use Rattle.field_kinds.specs.Filled.{optional_filled}
use Rattle.field_kinds.specs.OutsideProfile.{an_empty_message, an_empty_text}
use Rattle.field_kinds.specs.Requests.{RequestForm}
use Rattle.field_kinds.proofs.RequestLaws.{IsLawful}
use Rattle.form_fields.specs.Fields.{Fields, beside, both, last, unused_field}
use Rattle.form_fields.specs.Laws.{AreLawful, IsMadeOf}
use Rattle.form_fields.proofs.FieldLaws.{after_object, beside_lawful, both_lawful, last_lawful, unused_lawful}
use Rattle.form_fields.proofs.MemberLaws.{put_optional_is}
use Rattle.form_fields.proofs.RequestLaws.{read_again, request_formed, request_lawful}
use Rattle.page_tokens.specs.declared.kinds.VerdictCursor.{VerdictCursor}
use Rattle.result_forms.specs.Laws.{IsReadAgain}
use Rattle.query_forms.specs.Names as name
use Rattle.query_forms.specs.Lists.{names_of_query}
use Rattle.query_forms.specs.Variants.{IsVariantsOfForm, a_variants_query, variants_form, variants_method, variants_query}
use Rattle.query_forms.specs.Sizes.{a_size}
use Rattle.query_forms.specs.Tokens.{IsCursor, a_page_token, a_token, verdict_cursors, token_text}
use Rattle.query_forms.specs.declared.variants.QueryTestVariants.{QueryTestVariants}
use Rattle.query_forms.proofs.ListLaws.{asked_as_written, names_are, names_field, names_in_form, names_of_form}
use Rattle.query_forms.proofs.SizeLaws.{put_size_is, size_are, size_field}
use Rattle.query_forms.proofs.TokenLaws.{HasToken, query_of, token_are, token_field, tokens_of_form, tokens_written, verdict_cursor_lawful}

-- the names, how many results of a verdict are shown, and the size of a page
abbrev asked_fields : Fields (List (List ℕ) × (ℕ × ℕ))
asked_fields = both names_field (both (size_field name.result_limit) (size_field name.page_size))

asked_are : AreLawful asked_fields
asked_are = both_lawful names_field _ names_are (both_lawful _ _ (size_are name.result_limit) (size_are name.page_size))

-- and what is judged beside the names, or is outside the profile
abbrev rest_fields : List (List ℕ) → Fields (Option VerdictCursor × (⊤ × (⊤ × ⊤)))
rest_fields ids =
    both (token_field verdict_cursors (query_of variants_method ids))
    (both (unused_field name.predicate an_empty_message)
    (both (unused_field name.read_mask an_empty_message) (last (unused_field name.order_by an_empty_text))))

rest_are : (ids : List (List ℕ)) → AreLawful (rest_fields ids)
rest_are ids =
    both_lawful _ _ (token_are verdict_cursors verdict_cursor_lawful variants_method ids)
    (both_lawful _ _ (unused_lawful name.predicate an_empty_message)
    (both_lawful _ _ (unused_lawful name.read_mask an_empty_message) (last_lawful _ (unused_lawful name.order_by an_empty_text))))

abbrev unread : Data → Option FieldFault
unread d = first (optional name.predicate an_empty_message d) (first (optional name.read_mask an_empty_message d) (first (optional name.order_by an_empty_text d) None))

abbrev rest_fault : Data → Option FieldFault
rest_fault d = first (a_page_token verdict_cursors variants_method d) (unread d)

same_rest : (d : Data) (v : List (List ℕ) × (ℕ × ℕ)) → asked_fields.means d v → rest_fault d ≡ (rest_fields v.0).fault d
same_rest d v is =
    ap (λ (query : List ℕ). first (optional_filled name.page_token empty_text (a_token verdict_cursors query) d) (unread d)) (asked_as_written variants_method d v.0 is.0)

abbrev variants_fields : Fields ((List (List ℕ) × (ℕ × ℕ)) × (Option VerdictCursor × (⊤ × (⊤ × ⊤))))
variants_fields =
    beside asked_fields (λ v. rest_fields v.0) rest_fault (name.page_token ∷ name.predicate ∷ name.read_mask ∷ name.order_by ∷ []) 0

variants_are : AreLawful variants_fields
variants_are =
    beside_lawful asked_fields (λ v. rest_fields v.0) rest_fault (name.page_token ∷ name.predicate ∷ name.read_mask ∷ name.order_by ∷ []) 0 asked_are (λ v. rest_are v.0)
    (λ d v none is. same_rest d v is) (λ v. refl) (λ v. omega arith)

-- the form of requests whose cursor has a token, as it has where it is written or read
abbrev told_form : RequestForm QueryTestVariants
told_form = record {
  fault = variants_form.fault;
  means = variants_form.means;
  json = variants_form.json;
  OfForm = λ q. IsVariantsOfForm q × ForSome q.page_token (HasToken verdict_cursors (variants_query q));
  CanBeAsked = IsVariantsOfForm;
}

abbrev IsTokenAsked : List ℕ → Data → Option VerdictCursor → Type 0
IsTokenAsked query d o = HoldsMaybe (IsCursor verdict_cursors query) (filled_at name.page_token empty_text d) o

variants_made : IsMadeOf told_form variants_fields
unfolding a_variants_query
variants_made = record {
  made = λ v. record { invocations = v.0.0; result_limit = v.0.1.0; page_size = v.0.1.1; page_token = v.1.0 };
  parts = λ q. ((q.invocations, (q.result_limit, q.page_size)), (q.page_token, (tt, (tt, tt))));
  held = λ v. refl;
  whole = λ d q is. refl;
  faults = λ d.
      ap (first (an_object d))
      (sym (after_object (names_of_query d) (first (a_size name.result_limit d) (a_size name.page_size d)) (rest_fault d)
      ∙ ap (first (names_of_query d)) (after_object (a_size name.result_limit d) (a_size name.page_size d) (rest_fault d))));
  told = λ d q is.
      let token = subst (λ (query : List ℕ). IsTokenAsked query d q.page_token) (asked_as_written variants_method d q.invocations is.invocations_are) is.page_token_is in
      ((is.invocations_are, (is.result_limit_is, is.page_size_is)), (token, (tt, (tt, tt))));
  said = λ d q of is. record {
    invocations_are = is.0.0;
    result_limit_is = is.0.1.0;
    page_size_is = is.0.1.1;
    page_token_is = subst (λ (query : List ℕ). IsTokenAsked query d q.page_token) (sym (asked_as_written variants_method d q.invocations is.0.0)) is.1.0;
  };
  in_form = λ q of. ((names_in_form q.invocations of.0.invocations, (of.0.result_limit, of.0.page_size)), (of.1, (tt, (tt, tt))));
  of_form = λ v of. (
    record {
      invocations = names_of_form v.0.0 of.0.0;
      result_limit = of.0.1.0;
      page_size = of.0.1.1;
      page_token = tokens_of_form verdict_cursors (query_of variants_method v.0.0) v.1.0 of.1.0;
    },
    of.1.0,
  );
  members = λ q.
      rw (
        put_size_is name.result_limit q.result_limit,
        put_size_is name.page_size q.page_size,
        put_optional_is name.page_token (λ c. string (token_text verdict_cursors (variants_query q) c)) q.page_token,
      ) refl;
  apart = refl;
}

variants_asked : GivesForm told_form.fault told_form.means told_form.CanBeAsked
variants_asked d q none is = (request_formed told_form variants_fields variants_made variants_are d q none is).0

pub variants_lawful : IsLawful variants_form
variants_lawful =
    let law = request_lawful told_form variants_fields variants_made variants_are variants_asked (omega arith) in
    record { one = law.one; there = law.there; formed = variants_asked; asked = variants_asked; plain = law.plain }

-- what is written is read again, where the token is written so
pub variants_again : (q : QueryTestVariants) → variants_form.CanBeAsked q
    → IfSome q.page_token (λ c. IsWritten (a_token verdict_cursors (variants_query q)) (IsCursor verdict_cursors (variants_query q)) empty_text (λ _. false) c
    (string (token_text verdict_cursors (variants_query q) c))) → IsReadAgain variants_form q
variants_again q is w = read_again told_form variants_fields variants_made variants_are q (is, tokens_written verdict_cursors (variants_query q) q.page_token w)
