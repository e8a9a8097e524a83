-- Requests that an invocation include others, made of their fields.
use Rattle.std.proofs.Common.{◌≡◌, ℕ, false, List, None, refl, sym, subst, arith}
use Rattle.std.specs.Prelude.{⊤, All}
use Rattle.names_realms.specs.Names.{IsInvocationId}
use Rattle.serde_json.specs.Data.{no_members}
use Rattle.json_fields.specs.Kinds.{an_unbuilt_list, empty_text}
use Rattle.json_fields.specs.Writing.{IsWritten, AllWritten}
use Rattle.field_kinds.proofs.RequestLaws.{IsLawful}
use Rattle.form_fields.specs.Fields.{Fields, both, last, list_field, required_field, unused_field}
use Rattle.form_fields.specs.Kinds.{invocation_kind}
use Rattle.form_fields.specs.Laws.{AreLawful, IsMadeOf}
use Rattle.form_fields.proofs.FieldLaws.{both_lawful, last_lawful, list_field_lawful, required_lawful, unused_lawful}
use Rattle.form_fields.proofs.KindLaws.{all_form, invocation_lawful, written_form}
use Rattle.form_fields.proofs.MemberLaws.{put_list_is}
use Rattle.form_fields.proofs.RequestLaws.{read_again, request_lawful}
use Rattle.invocation_forms.specs.Included.{an_include_request, IsInclude, include_data, include_form}
use Rattle.invocation_forms.specs.Named.{an_invocation_name, IsNameOf, name_data}
use Rattle.invocation_forms.specs.Names as name

abbrev include_fields : Fields (List ℕ × (List (List ℕ) × ⊤))
include_fields =
    both (required_field name.including_invocation invocation_kind)
    (both (list_field name.add_invocations invocation_kind) (last (unused_field name.remove_invocations an_unbuilt_list)))

include_are : AreLawful include_fields
include_are =
    both_lawful _ _ (required_lawful name.including_invocation invocation_kind invocation_lawful)
    (both_lawful _ _ (list_field_lawful invocation_kind invocation_lawful name.add_invocations) (last_lawful _ (unused_lawful name.remove_invocations an_unbuilt_list)))

-- a form that says the including id and those to add, and nothing else
include_made : {Q : Type 0} (including : Q → List ℕ) (add : Q → List (List ℕ)) (make : List ℕ → List (List ℕ) → Q)
    → ((a b : Q) → including a ≡ including b → add a ≡ add b → a ≡ b)
    → ((x : List ℕ) (xs : List (List ℕ)) → including (make x xs) ≡ x) → ((x : List ℕ) (xs : List (List ℕ)) → add (make x xs) ≡ xs)
    → IsMadeOf (include_form including add) include_fields
unfolding an_include_request
include_made including add make same first second = record {
  made = λ v. make v.0 v.1.0;
  parts = λ q. (including q, (add q, tt));
  held = λ v i. (first v.0 v.1.0 i, (second v.0 v.1.0 i, tt));
  whole = λ d q is. same q (make (including q) (add q)) (sym (first (including q) (add q))) (sym (second (including q) (add q)));
  faults = λ d. refl;
  told = λ d q is. (is.including_is, (is.added_are, tt));
  said = λ d q of is. record { including_is = is.0; added_are = is.1.0 };
  in_form = λ q of. ((of.including_is, refl), (of.added_are, tt));
  of_form = λ v of. record {
    including_is = subst IsInvocationId (sym (first v.0 v.1.0)) of.0.0;
    added_are = subst (All IsInvocationId) (sym (second v.0 v.1.0)) of.1.0;
  };
  members = λ q. rw (put_list_is name.add_invocations name_data (add q) no_members) refl;
  apart = refl;
}

pub include_lawful : {Q : Type 0} (including : Q → List ℕ) (add : Q → List (List ℕ)) (make : List ℕ → List (List ℕ) → Q)
    → ((a b : Q) → including a ≡ including b → add a ≡ add b → a ≡ b)
    → ((x : List ℕ) (xs : List (List ℕ)) → including (make x xs) ≡ x) → ((x : List ℕ) (xs : List (List ℕ)) → add (make x xs) ≡ xs)
    → IsLawful (include_form including add)
include_lawful including add make same first second =
    request_lawful (include_form including add) include_fields (include_made including add make same first second) include_are (λ d q none is. tt) (omega arith)

pub include_written : (including : List ℕ) (add : List (List ℕ))
    → IsWritten an_invocation_name IsNameOf empty_text (λ _. false) including (name_data including)
    → AllWritten an_invocation_name IsNameOf empty_text (λ _. false) name_data add
    → (an_include_request (include_data including add) ≡ None) × IsInclude (include_data including add) including add
include_written including add w all =
    let ids : List ℕ × List (List ℕ) = (including, add) in
    read_again (include_form (λ (q : List ℕ × List (List ℕ)). q.0) (λ q. q.1)) include_fields
    (include_made (λ (q : List ℕ × List (List ℕ)). q.0) (λ q. q.1) (λ x xs. (x, xs)) (λ a b one two i. (one i, two i)) (λ x xs. refl) (λ x xs. refl)) include_are ids
    (record {
      including_is = written_form invocation_kind invocation_lawful including w;
      added_are = all_form invocation_kind invocation_lawful add all;
    })
