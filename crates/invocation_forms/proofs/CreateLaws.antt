-- Requests for a new invocation, made of their fields.
use Rattle.std.proofs.Common.{ℕ, ℤ, List, Option, refl, arith}
use Rattle.names_realms.specs.declared.pairs.Pair.{Pair}
use Rattle.name_parts.specs.declared.alphabets.Alphabet.TheVariants as alphabet
use Rattle.name_parts.specs.declared.parts.PartForm.TheVariants.{Letters}
use Rattle.moments_spans.specs.Moments.{moment_text}
use Rattle.serde_json.specs.Data.{no_members, string}
use Rattle.field_kinds.specs.PairKinds.Tags.{tag_data}
use Rattle.field_kinds.proofs.RequestLaws.{IsLawful}
use Rattle.form_fields.specs.Fields.{Fields, both, filled_field, last, list_field, object_kind, optional_field, required_field}
use Rattle.form_fields.specs.Kinds.{moment_kind, part_kind, realm_kind, request_id_kind, tag_kind}
use Rattle.form_fields.specs.Laws.{AreLawful, IsLawfulKind, IsMadeOf}
use Rattle.form_fields.proofs.FieldLaws.{both_lawful, filled_lawful, last_lawful, list_field_lawful, optional_lawful, required_lawful}
use Rattle.form_fields.proofs.KindLaws.{moment_lawful, part_lawful, realm_lawful, request_id_filled, request_id_lawful, tag_data_lawful}
use Rattle.form_fields.proofs.MemberLaws.{put_list_is, put_optional_is}
use Rattle.form_fields.proofs.RequestLaws.{object_lawful, request_lawful}
use Rattle.invocation_forms.specs.Create.{a_create_request, a_new_invocation, create_form, new_form}
use Rattle.invocation_forms.specs.Names as name
use Rattle.invocation_forms.specs.declared.create.NewInvocation.{NewInvocation}

-- ---- the invocation

abbrev pub new_fields : Fields (List ℕ × (Option ℤ × List Pair))
new_fields =
    both (required_field name.realm realm_kind)
    (both (optional_field name.deadline moment_kind) (last (list_field name.tags (tag_kind tag_data))))

new_are : AreLawful new_fields
new_are =
    both_lawful _ _ (required_lawful name.realm realm_kind realm_lawful)
    (both_lawful _ _ (optional_lawful name.deadline moment_kind moment_lawful) (last_lawful _ (list_field_lawful (tag_kind tag_data) tag_data_lawful name.tags)))

new_made : IsMadeOf new_form new_fields
unfolding a_new_invocation
new_made = record {
  made = λ v. record { realm = v.0; deadline = v.1.0; tags = v.1.1 };
  parts = λ q. (q.realm, (q.deadline, q.tags));
  held = λ v. refl;
  whole = λ d q is. refl;
  faults = λ d. refl;
  told = λ d q is. (is.realm_is, (is.deadline_is, is.tags_are));
  said = λ d q of is. record { realm_is = is.0; deadline_is = is.1.0; tags_are = is.1.1 };
  in_form = λ q of. ((of.realm, refl), (of.deadline, of.tags));
  of_form = λ v of. record { realm = of.0.0; deadline = of.1.0; tags = of.1.1 };
  members = λ q.
      rw (put_list_is name.tags tag_data q.tags no_members, put_optional_is name.deadline (λ z. string (moment_text z)) q.deadline) refl;
  apart = refl;
}

pub new_lawful : IsLawfulKind (object_kind new_form new_fields)
new_lawful = object_lawful new_form new_fields new_made new_are

-- ---- the request

abbrev pub create_fields : Fields (Option (List ℕ) × (List ℕ × NewInvocation))
create_fields =
    both (filled_field name.request_id request_id_kind)
    (both (required_field name.invocation_id (part_kind (Letters alphabet.Invocation))) (last (required_field name.invocation (object_kind new_form new_fields))))

pub create_are : AreLawful create_fields
create_are =
    both_lawful _ _ (filled_lawful name.request_id request_id_kind request_id_lawful request_id_filled)
    (both_lawful _ _ (required_lawful name.invocation_id (part_kind (Letters alphabet.Invocation)) (part_lawful (Letters alphabet.Invocation)))
    (last_lawful _ (required_lawful name.invocation (object_kind new_form new_fields) new_lawful)))

pub create_made : IsMadeOf create_form create_fields
unfolding a_create_request
create_made = record {
  made = λ v. record { request_id = v.0; id = v.1.0; invocation = v.1.1 };
  parts = λ q. (q.request_id, (q.id, q.invocation));
  held = λ v. refl;
  whole = λ d q is. refl;
  faults = λ d. refl;
  told = λ d q is. (is.request_id_is, (is.id_is, is.new_is));
  said = λ d q of is. record { request_id_is = is.0; id_is = is.1.0; new_is = is.1.1 };
  in_form = λ q of. (of.request_id, ((of.id, refl), (of.invocation, refl)));
  of_form = λ v of. record { request_id = of.0; id = of.1.0.0; invocation = of.1.1.0 };
  members = λ q. rw (put_optional_is name.request_id (λ text. string text) q.request_id) refl;
  apart = refl;
}

pub create_lawful : IsLawful create_form
create_lawful = request_lawful create_form create_fields create_made create_are (λ d q none is. tt) (omega arith)
