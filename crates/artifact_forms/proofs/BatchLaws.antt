-- Batches of artifacts, made of their fields. The elements are judged beside the batch's leader.
use Rattle.std.proofs.Common.{◌≡◌, ℕ, false, List, [], ◌∷◌, Option, Some, None, refl, sym, ap, subst, ◌∙◌, arith}
use Rattle.std.specs.Prelude.{All}
use Rattle.std.proofs.lemmas.List.Elements.{All-cons, All-nil, All-head, All-tail, All-weaker}
use Rattle.serde_json.specs.Data.{Data, string}
use Rattle.names_realms.specs.Parents.{parent_name}
use Rattle.names_realms.specs.declared.parents.Parent.{Parent}
use Rattle.json_fields.specs.Names.{NameForm}
use Rattle.json_fields.specs.Faults.{Says}
use Rattle.json_fields.specs.Fields.{filled_at, member, required, Holds}
use Rattle.json_fields.specs.Kinds.{an_object, a_list, empty_text, empty_list, IsEach}
use Rattle.json_fields.specs.Writing.{is_bare, list_data}
use Rattle.json_fields.specs.declared.faults.ReadFault.{ReadFault}
use Rattle.json_fields.proofs.ListLaws.{stops}
use Rattle.json_fields.proofs.WriteLaws.{set_found}
use Rattle.field_kinds.specs.Filled.{optional_filled}
use Rattle.field_kinds.specs.Requests.{RequestForm}
use Rattle.field_kinds.specs.TextKinds.Texts.{a_request_id}
use Rattle.form_fields.specs.Fields.{Fields, Kind, both, filled_field, last, list_kind, object_kind, required_field}
use Rattle.form_fields.specs.Kinds.{request_id_kind}
use Rattle.form_fields.specs.Laws.{AreLawful, IsMadeOf}
use Rattle.form_fields.proofs.FieldLaws.{both_lawful, filled_lawful, last_lawful, list_lawful, required_lawful}
use Rattle.form_fields.proofs.KindLaws.{request_id_filled, request_id_lawful}
use Rattle.form_fields.proofs.MemberLaws.{all_at}
use Rattle.form_fields.proofs.RequestLaws.{object_lawful}
use Rattle.artifacts.specs.declared.new_artifact.NewArtifact.{NewArtifact}
use Rattle.artifact_forms.specs.Names as name
use Rattle.artifact_forms.specs.Files.{file_of}
use Rattle.artifact_forms.specs.Parents.{invocation_part, leader_of}
use Rattle.artifact_forms.specs.Batches.{an_element, elements, a_batch, IsElement, element_members, element_data, IsElementOfForm, IsIn, AreInOne}
use Rattle.artifact_forms.specs.Methods.{artifacts_form}
use Rattle.artifact_forms.specs.declared.files.File.{File}
use Rattle.artifact_forms.proofs.FileLaws.{file_kind, file_lawful}
use Rattle.artifact_forms.proofs.ParentLaws.{beside_kind, beside_kind_lawful, part_of}

-- a batch's fault is that of its elements where the fields before them have none
pub batch_stops : (d : Data) (e : ReadFault) (n r : NameForm) (leader : List ℕ) → n ≡ name.request_id → r ≡ name.requests → an_object d ≡ None
    → optional_filled n empty_text a_request_id d ≡ None → leader ≡ leader_of d
    → Says e (required r empty_list (a_list (an_element leader)) d) → Says e (a_batch d)
unfolding a_batch
batch_stops d e n r leader is_n is_r one two led says =
    let two_is : optional_filled name.request_id empty_text a_request_id d ≡ None =
    subst (λ (m : NameForm). optional_filled m empty_text a_request_id d ≡ None) is_n two in
    let named : Says e (required name.requests empty_list (a_list (an_element leader)) d) =
    subst (λ (m : NameForm). Says e (required m empty_list (a_list (an_element leader)) d)) is_r says in
    let whole : Says e (elements d) = subst (λ (t : List ℕ). Says e (required name.requests empty_list (a_list (an_element t)) d)) led named in
    rw (one, two_is) (stops e (elements d) None whole)

-- ---- elements beside a leader

module _ (leader : List ℕ) where
  abbrev InOneWith : NewArtifact → Type 0
  InOneWith a = IsElementOfForm a × IsIn (invocation_part leader) a

  abbrev element_form : RequestForm NewArtifact
  element_form = record { fault = an_element leader; means = IsElement; json = element_data; OfForm = InOneWith; CanBeAsked = InOneWith }

  abbrev element_fields : Fields (Parent × File)
  element_fields = both (required_field name.parent (beside_kind leader)) (last (required_field name.artifact file_kind))

  element_are : AreLawful element_fields
  element_are =
      both_lawful _ _ (required_lawful name.parent (beside_kind leader) (beside_kind_lawful leader))
      (last_lawful _ (required_lawful name.artifact file_kind file_lawful))

  element_made : IsMadeOf element_form element_fields
  unfolding an_element
  element_made = record {
    made = λ v. record {
      name = record { parent = v.0; artifact = v.1.id };
      content_type = v.1.content_type;
      contents = v.1.contents;
      said_size = v.1.said_size;
      said_hash = v.1.said_hash;
    };
    parts = λ a. (a.name.parent, file_of a);
    held = λ v. refl;
    whole = λ d a is. refl;
    faults = λ d. refl;
    told = λ d a is. (is.parent_is, is.file_is);
    said = λ d a of is. record { parent_is = is.0; file_is = is.1 };
    in_form = λ a of. (((of.0.parent, of.1), refl), (of.0.file, refl));
    of_form = λ v of. (record { parent = of.0.0.0; file = of.1.0 }, of.0.0.1);
    members = λ a. refl;
    apart = refl;
  }

  abbrev element_kind : Kind NewArtifact
  element_kind = object_kind element_form element_fields

  abbrev led_field : Fields (List NewArtifact)
  led_field = required_field name.requests (list_kind element_kind)

  led_lawful : AreLawful led_field
  led_lawful =
      let element = object_lawful element_form element_fields element_made element_are in
      required_lawful name.requests (list_kind element_kind) (list_lawful element_kind element)

-- ---- elements beside the leader of their batch

both_all : {A : Type 0} (P Q : A → Type 0) (xs : List A) → All P xs → All Q xs → All (λ x. P x × Q x) xs
both_all P Q [] ps qs = All-nil (λ x. P x × Q x)
both_all P Q (x ∷ xs) ps qs =
    All-cons (λ y. P y × Q y) x xs (All-head P x xs ps, All-head Q x xs qs) (both_all P Q xs (All-tail P x xs ps) (All-tail Q x xs qs))

-- the leader of what is written is the name of the first parent
leads : (d : Data) (a : NewArtifact) (rows : List NewArtifact) → member name.requests d ≡ Some (list_data element_data (a ∷ rows))
    → leader_of d ≡ parent_name a.name.parent
leads d a rows there =
    let list = set_found name.requests d (list_data element_data (a ∷ rows)) there refl in
    let first = set_found name.parent (element_data a) (string (parent_name a.name.parent)) (all_at (element_members a) refl).0 refl in
    rw (list, first) refl

abbrev AreRows : List NewArtifact → Type 0
AreRows rows = (rows ≡ [] → ⊥) × (All IsElementOfForm rows × AreInOne rows)

led : (d : Data) (rows : List NewArtifact) → member name.requests d ≡ Some (list_data element_data rows) → AreRows rows
    → All (InOneWith (leader_of d)) rows × (is_bare rows ≡ false)
led d [] there are = absurd (are.0 refl)
led d (a ∷ rows) there are =
    let p : Parent = a.name.parent in
    let id : List ℕ = are.1.1.0 in
    let mine = All-head (IsIn id) a rows are.1.1.1 in
    let part : id ≡ invocation_part (leader_of d) =
    sym mine ∙ sym (part_of p (All-head IsElementOfForm a rows are.1.0).parent) ∙ ap invocation_part (sym (leads d a rows there)) in
    let together = subst (λ (x : List ℕ). All (IsIn x) (a ∷ rows)) part are.1.1.1 in
    (both_all IsElementOfForm (IsIn (invocation_part (leader_of d))) (a ∷ rows) are.1.0 together, grind arith)

not_bare : (rows : List NewArtifact) → is_bare rows ≡ false → rows ≡ [] → ⊥
not_bare [] some same = absurd cc
not_bare (a ∷ rows) some same = absurd cc

abbrev rows_field : Fields (List NewArtifact)
rows_field = record {
  names = name.requests ∷ [];
  fault = elements;
  means = λ d. Holds (IsEach IsElement) (filled_at name.requests empty_list d);
  OfForm = AreRows;
  members = λ rows. (name.requests, Some (list_data element_data rows)) ∷ [];
  levels = 3;
}

rows_lawful : AreLawful rows_field
rows_lawful = record {
  one = (led_lawful []).one;
  there = λ d is none. (led_lawful (leader_of d)).there d is none;
  formed = λ d rows none is.
      let id : List ℕ = invocation_part (leader_of d) in
      let of = (led_lawful (leader_of d)).formed d rows none is in
      let all = All-weaker (InOneWith (leader_of d)) IsElementOfForm (λ a h. h.0) rows of.0 in
      let together = All-weaker (InOneWith (leader_of d)) (IsIn id) (λ a h. h.1) rows of.0 in
      (not_bare rows of.1, (all, (id, together)));
  named = λ rows. refl;
  again = λ rows d are at. (led_lawful (leader_of d)).again rows d (led d rows at.0 are) at;
  plain = (led_lawful []).plain;
}

-- ---- the batch

abbrev pub batch_fields : Fields (Option (List ℕ) × List NewArtifact)
batch_fields = both (filled_field name.request_id request_id_kind) (last rows_field)

pub batch_are : AreLawful batch_fields
batch_are = both_lawful _ _ (filled_lawful name.request_id request_id_kind request_id_lawful request_id_filled) (last_lawful rows_field rows_lawful)

pub batch_made : IsMadeOf artifacts_form batch_fields
unfolding a_batch
batch_made = record {
  made = λ v. record { request_id = v.0; requests = v.1 };
  parts = λ q. (q.request_id, q.requests);
  held = λ v. refl;
  whole = λ d q is. refl;
  faults = λ d. refl;
  told = λ d q is. (is.request_id_is, is.rows_are);
  said = λ d q of is. record { request_id_is = is.0; rows_are = is.1 };
  in_form = λ q of. (of.request_id, (of.some, (of.rows, of.together)));
  of_form = λ v of. record { request_id = of.0; some = of.1.0; rows = of.1.1.0; together = of.1.1.1 };
  members = λ q. refl;
  apart = refl;
}
