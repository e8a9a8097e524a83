-- Batches, made of their fields: the elements are judged beside the batch's invocation and number.
use Rattle.std.proofs.Common.{◌≡◌, ◌≢◌, ◌==◌, ℕ, Bool, true, false, List, [], ◌∷◌, length, Option, Some, None, if◌then◌else◌, option_and_then, refl, sym, ap, subst, ◌∙◌, arith}
use Rattle.std.specs.Prelude.{⊤}
use Rattle.serde_json.specs.Data.{Data, null, boolean, number, string, array, object}
use Rattle.names_realms.specs.Names.{invocation_name, IsInvocationName}
use Rattle.json_fields.specs.Names.{NameForm}
use Rattle.json_fields.specs.Faults.{first, Says}
use Rattle.json_fields.specs.Fields.{filled, filled_at, member, required, set, set_at, Holds, HoldsMaybe}
use Rattle.json_fields.specs.Kinds.{a_list, an_object, empty_list, empty_text, never_empty}
use Rattle.json_fields.specs.Texts.{IsSame, IsText}
use Rattle.json_fields.specs.Writing.{is_bare}
use Rattle.json_fields.specs.declared.faults.ReadFault.{ReadFault}
use Rattle.json_fields.proofs.ListLaws.{stops}
use Rattle.field_kinds.specs.Beside.{a_same_text}
use Rattle.field_kinds.specs.Filled.{optional_filled}
use Rattle.field_kinds.specs.Requests.{RequestForm}
use Rattle.field_kinds.specs.TextKinds.Texts.{a_request_id}
use Rattle.form_fields.specs.Fields.{Fields, Kind, beside, both, filled_field, last, list_kind, object_kind, required_field, unused_field}
use Rattle.form_fields.specs.Kinds.{invocation_kind, request_id_kind}
use Rattle.form_fields.specs.Laws.{AreLawful, IsLawfulKind, IsMadeOf, all_apart}
use Rattle.form_fields.proofs.FieldLaws.{after_object, beside_lawful, both_lawful, filled_lawful, last_lawful, list_lawful, required_lawful, unused_lawful}
use Rattle.form_fields.proofs.KindLaws.{invocation_lawful, request_id_filled, request_id_lawful}
use Rattle.form_fields.proofs.RequestLaws.{object_lawful}
use Rattle.result_forms.specs.Batches.{Batch, RowForm, a_batch, an_element, element_data, elements, IsBatchOfForm, IsElement}
use Rattle.result_forms.specs.Fields.{an_invocation_name, text_in}
use Rattle.result_forms.specs.Methods.{batch_form}
use Rattle.result_forms.specs.Names as name

-- a batch's fault is that of its elements where the fields before them have none
pub batch_stops : {A : Type 0} (f : RowForm A) (d : Data) (e : ReadFault) (i n r : NameForm) (invocation request_id : List ℕ)
    → i ≡ name.invocation → n ≡ name.request_id → r ≡ name.requests → an_object d ≡ None → required i empty_text an_invocation_name d ≡ None
    → optional_filled n empty_text a_request_id d ≡ None → invocation ≡ text_in (set_at name.invocation d) → request_id ≡ text_in (set_at name.request_id d)
    → Says e (required r empty_list (a_list (an_element f invocation request_id)) d) → Says e (a_batch f d)
unfolding a_batch
batch_stops f d e i n r invocation request_id is_i is_n is_r one two three inner other says =
    let two_is : required name.invocation empty_text an_invocation_name d ≡ None = subst (λ (m : NameForm). required m empty_text an_invocation_name d ≡ None) is_i two in
    let three_is : optional_filled name.request_id empty_text a_request_id d ≡ None = subst (λ (m : NameForm). optional_filled m empty_text a_request_id d ≡ None) is_n three in
    let named : Says e (required name.requests empty_list (a_list (an_element f invocation request_id)) d) =
    subst (λ (m : NameForm). Says e (required m empty_list (a_list (an_element f invocation request_id)) d)) is_r says in
    let beside : Says e (required name.requests empty_list (a_list (an_element f (text_in (set_at name.invocation d)) request_id)) d) =
    subst (λ (t : List ℕ). Says e (required name.requests empty_list (a_list (an_element f t request_id)) d)) inner named in
    let whole : Says e (elements f d) =
    subst (λ (t : List ℕ). Says e (required name.requests empty_list (a_list (an_element f (text_in (set_at name.invocation d)) t)) d)) other beside in
    rw (one, two_is, three_is) (stops e (elements f d) None whole)

-- ---- the text of a field, by what it means

abbrev pub told_text : {A : Type 0} → (A → List ℕ) → Option A → List ℕ
told_text spelling None = []
told_text spelling (Some a) = spelling a

module _ {A : Type 0} (spells : List ℕ → A → Type 0) (spelling : A → List ℕ) (law : (s : List ℕ) (a : A) → spells s a → s ≡ spelling a) where
  string_seen : (s : List ℕ) (t : Bool) (o : Option A) → (length s == 0) ≡ t → HoldsMaybe (IsText spells) (if t then None else Some (string s)) o
      → s ≡ told_text spelling o
  string_seen [] true None e h = refl
  string_seen (b ∷ bs) true None e h = absurd (let some : (length (b ∷ bs) == 0) ≡ false = grind arith in cc)
  string_seen s true (Some a) e h = absurd h
  string_seen s false None e h = absurd h
  string_seen s false (Some a) e h = law s a h

  seen : (m : Option Data) (o : Option A) → HoldsMaybe (IsText spells) (option_and_then (filled empty_text) m) o
      → text_in (option_and_then set m) ≡ told_text spelling o
  seen None None h = refl
  seen None (Some a) h = absurd h
  seen (Some null) None h = refl
  seen (Some null) (Some a) h = absurd h
  seen (Some (boolean b)) None h = absurd h
  seen (Some (boolean b)) (Some a) h = absurd h
  seen (Some (number n)) None h = absurd h
  seen (Some (number n)) (Some a) h = absurd h
  seen (Some (string s)) o h = string_seen s (length s == 0) o refl h
  seen (Some (array ds)) None h = absurd h
  seen (Some (array ds)) (Some a) h = absurd h
  seen (Some (object ms)) None h = absurd h
  seen (Some (object ms)) (Some a) h = absurd h

  pub text_seen : (n : NameForm) (d : Data) (o : Option A) → HoldsMaybe (IsText spells) (filled_at n empty_text d) o → text_in (set_at n d) ≡ told_text spelling o
  unfolding filled_at set_at
  text_seen n d o h = seen (member n d) o h

pub held_some : {A : Type 0} (means : Data → A → Type 0) (o : Option Data) (a : A) → Holds means o a → HoldsMaybe means o (Some a)
held_some means None a h = absurd h
held_some means (Some d) a h = h

-- ---- elements

-- a row as a kind of values
abbrev pub row_kind : {A : Type 0} → RowForm A → Kind A
row_kind f = record {
  fault = f.fault;
  means = f.means;
  empty = never_empty;
  blank = λ row. false;
  OfForm = f.OfForm;
  json = f.json;
  levels = 65;
}

-- A row is lawful, and its member is none of the element's others.
pub record IsLawfulRow {A : Type 0} (f : RowForm A) : Type 0 where
  pub row : IsLawfulKind (row_kind f)
  pub apart : all_apart (name.invocation ∷ name.request_id ∷ f.member ∷ []) ≡ true

abbrev element_fields : {A : Type 0} → RowForm A → List ℕ → List ℕ → Fields (⊤ × (⊤ × A))
element_fields f invocation request_id =
    both (unused_field name.invocation (a_same_text invocation))
    (both (unused_field name.request_id (a_same_text request_id)) (last (required_field f.member (row_kind f))))

abbrev element_form : {A : Type 0} → RowForm A → List ℕ → List ℕ → RequestForm A
element_form f invocation request_id = record {
  fault = an_element f invocation request_id;
  means = IsElement f;
  json = element_data f;
  OfForm = f.OfForm;
  CanBeAsked = f.OfForm;
}

abbrev element_kind : {A : Type 0} → RowForm A → List ℕ → List ℕ → Kind A
element_kind f invocation request_id = object_kind (element_form f invocation request_id) (element_fields f invocation request_id)

-- ---- batches

abbrev whose_fields : Fields (List ℕ × Option (List ℕ))
whose_fields = both (required_field name.invocation invocation_kind) (filled_field name.request_id request_id_kind)

whose_are : AreLawful whose_fields
whose_are =
    both_lawful _ _ (required_lawful name.invocation invocation_kind invocation_lawful)
    (filled_lawful name.request_id request_id_kind request_id_lawful request_id_filled)

abbrev rows_fields : {A : Type 0} → RowForm A → List ℕ × Option (List ℕ) → Fields (List A)
rows_fields f whose = last (required_field name.requests (list_kind (element_kind f (invocation_name whose.0) (told_text (λ text. text) whose.1))))

abbrev pub batch_fields : {A : Type 0} → RowForm A → Fields ((List ℕ × Option (List ℕ)) × List A)
batch_fields f = beside whose_fields (rows_fields f) (λ d. first (elements f d) None) (name.requests ∷ []) 67

module _ {A : Type 0} (f : RowForm A) (law : IsLawfulRow f) where
  element_are : (invocation request_id : List ℕ) → AreLawful (element_fields f invocation request_id)
  element_are invocation request_id =
      both_lawful _ _ (unused_lawful name.invocation (a_same_text invocation))
      (both_lawful _ _ (unused_lawful name.request_id (a_same_text request_id)) (last_lawful _ (required_lawful f.member (row_kind f) law.row)))

  element_made : (invocation request_id : List ℕ) → IsMadeOf (element_form f invocation request_id) (element_fields f invocation request_id)
  unfolding an_element
  element_made invocation request_id = record {
    made = λ v. v.1.1;
    parts = λ row. (tt, (tt, row));
    held = λ v. refl;
    whole = λ d row is. refl;
    faults = λ d. refl;
    told = λ d row is. (tt, (tt, is));
    said = λ d row of is. is.1.1;
    in_form = λ row of. (tt, (tt, (of, refl)));
    of_form = λ v of. of.1.1.0;
    members = λ row. refl;
    apart = law.apart;
  }

  element_lawful : (invocation request_id : List ℕ) → IsLawfulKind (element_kind f invocation request_id)
  element_lawful invocation request_id = object_lawful _ _ (element_made invocation request_id) (element_are invocation request_id)

  rows_are : (whose : List ℕ × Option (List ℕ)) → AreLawful (rows_fields f whose)
  rows_are whose =
      let elements = element_lawful (invocation_name whose.0) (told_text (λ text. text) whose.1) in
      last_lawful _ (required_lawful name.requests _ (list_lawful _ elements))

  same_elements : (d : Data) (whose : List ℕ × Option (List ℕ)) → whose_fields.means d whose → first (elements f d) None ≡ (rows_fields f whose).fault d
  same_elements d whose is =
      let named = held_some (IsText (λ text id. IsInvocationName id text)) (filled_at name.invocation empty_text d) whose.0 is.0 in
      let inner = text_seen (λ text id. IsInvocationName id text) invocation_name (λ s id h. h.0) name.invocation d (Some whose.0) named in
      let numbered = text_seen IsSame (λ text. text) (λ s text h. sym h) name.request_id d whose.1 is.1 in
      ap (λ (of : List ℕ). first (required name.requests empty_list (a_list (an_element f of (text_in (set_at name.request_id d)))) d) None) inner
      ∙ ap (λ (of : List ℕ). first (required name.requests empty_list (a_list (an_element f (invocation_name whose.0) of)) d) None) numbered

  pub batch_are : AreLawful (batch_fields f)
  batch_are =
      beside_lawful whose_fields (rows_fields f) (λ d. first (elements f d) None) (name.requests ∷ []) 67 whose_are rows_are
      (λ d whose none is. same_elements d whose is) (λ whose. refl) (λ whose. omega arith)

some_rows : {A : Type 0} (rows : List A) → rows ≢ [] → is_bare rows ≡ false
some_rows [] some = absurd (some refl)
some_rows (a ∷ rows) some = grind arith

not_bare : {A : Type 0} (rows : List A) → is_bare rows ≡ false → rows ≢ []
not_bare [] some e = absurd cc
not_bare (a ∷ rows) some e = cc

-- a request that says a batch and nothing else
module _ {Q A : Type 0} (f : RowForm A) (said : Q → Batch A) (make : Batch A → Q) where
  pub batch_made : ((b : Batch A) → said (make b) ≡ b) → ((q : Q) → q ≡ make (said q)) → IsMadeOf (batch_form f said) (batch_fields f)
  unfolding a_batch
  batch_made held whole = record {
    made = λ v. make (record { invocation = v.0.0; request_id = v.0.1; rows = v.1 });
    parts = λ q. (((said q).invocation, (said q).request_id), (said q).rows);
    held = λ v i. let b = held (record { invocation = v.0.0; request_id = v.0.1; rows = v.1 }) i in ((b.invocation, b.request_id), b.rows);
    whole = λ d q is. whole q;
    faults = λ d.
        ap (first (an_object d)) (sym (after_object (required name.invocation empty_text an_invocation_name d) (optional_filled name.request_id empty_text a_request_id d) (first (elements f d) None)));
    told = λ d q is. ((is.invocation_is, is.request_id_is), is.rows_are);
    said = λ d q of is. record { invocation_is = is.0.0; request_id_is = is.0.1; rows_are = is.1 };
    in_form = λ q of. (((of.invocation, refl), of.request_id), (of.rows, some_rows (said q).rows of.some));
    of_form = λ v of.
        let b : Batch A = record { invocation = v.0.0; request_id = v.0.1; rows = v.1 } in
        subst (IsBatchOfForm f) (sym (held b)) (record { invocation = of.0.0.0; request_id = of.0.1; some = not_bare v.1 of.1.1; rows = of.1.0 });
    members = λ q. refl;
    apart = refl;
  }
