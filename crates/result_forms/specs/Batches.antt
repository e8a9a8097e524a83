-- Batches of rows of one invocation.
use Rattle.std.specs.Prelude.{◌≢◌, ℕ, List, [], ◌∷◌, All, Option, Some, option_map}
use Rattle.std.specs.Option.{ForSome}
use Rattle.serde_json.specs.Data.{Data, string}
use Rattle.names_realms.specs.Names.{invocation_name, IsInvocationId}
use Rattle.json_fields.specs.Names.{NameForm}
use Rattle.json_fields.specs.Fields.{required, optional, fault_of, filled_at, set_at, Holds, HoldsMaybe}
use Rattle.json_fields.specs.Kinds.{an_object, a_list, empty_text, empty_list, never_empty, IsEach}
use Rattle.json_fields.specs.Texts.{IsText, IsSame}
use Rattle.json_fields.specs.Writing.{list_data}
use Rattle.json_fields.specs.declared.faults.FieldFault.{FieldFault}
use Rattle.field_kinds.specs.Beside.{a_same_text}
use Rattle.field_kinds.specs.Filled.{optional_filled}
use Rattle.result_forms.specs.Names as name
use Rattle.field_kinds.specs.TextKinds.Texts.{a_request_id, IsRequestId}
use Rattle.result_forms.specs.Fields.{an_invocation_name, IsNameOf, text_in}
use Rattle.form_fields.specs.Members.{object_of}

-- Rows that are to be added to an invocation, with the number of the request where it has one.
pub record Batch (A : Type 0) : Type 0 where
  pub invocation : List ℕ
  pub request_id : Option (List ℕ)
  pub rows : List A

-- What the rows of a batch are: the member of an element that says one, the first fault of that,
-- what it means, what is written of a row, and where it is of its form.
pub record RowForm (A : Type 0) : Type 1 where
  pub member : NameForm
  pub fault : Data → Option FieldFault
  pub means : Data → A → Type 0
  pub json : A → Data
  pub OfForm : A → Type 0

-- of an element: an invocation and a request id, each of which is empty or that of the batch, and
-- the row
abbrev pub element_fields : {A : Type 0} → RowForm A → List ℕ → List ℕ
    → List (Data → Option FieldFault)
element_fields f invocation request_id =
    an_object
    ∷ optional name.invocation (a_same_text invocation)
    ∷ optional name.request_id (a_same_text request_id)
    ∷ required f.member never_empty f.fault
    ∷ []

unfoldable pub an_element : {A : Type 0} → RowForm A → List ℕ → List ℕ → Data
    → Option FieldFault
an_element f invocation request_id d = fault_of (element_fields f invocation request_id) d

-- an element of this batch, beside the invocation and the request id as the batch writes them
abbrev pub element_of : {A : Type 0} → RowForm A → Data → Data → Option FieldFault
element_of f batch d =
    an_element f (text_in (set_at name.invocation batch)) (text_in (set_at name.request_id batch)) d

abbrev pub elements : {A : Type 0} → RowForm A → Data → Option FieldFault
elements f d = required name.requests empty_list (a_list (element_of f d)) d

-- of a batch: an invocation's name, a request id, and the elements, of which there is one at least
abbrev pub batch_fields : {A : Type 0} → RowForm A → List (Data → Option FieldFault)
batch_fields f =
    an_object
    ∷ required name.invocation empty_text an_invocation_name
    ∷ optional_filled name.request_id empty_text a_request_id
    ∷ elements f
    ∷ []

unfoldable pub a_batch : {A : Type 0} → RowForm A → Data → Option FieldFault
a_batch f d = fault_of (batch_fields f) d

-- the row that an element says
abbrev pub IsElement : {A : Type 0} → RowForm A → Data → A → Type 0
IsElement f d row = Holds f.means (filled_at f.member never_empty d) row

-- A value asks for this batch.
pub record IsBatch {A : Type 0} (f : RowForm A) (d : Data) (b : Batch A) : Type 0 where
  pub invocation_is : Holds IsNameOf (filled_at name.invocation empty_text d) b.invocation
  pub request_id_is :
      HoldsMaybe (IsText IsSame) (filled_at name.request_id empty_text d) b.request_id
  pub rows_are : Holds (IsEach (IsElement f)) (filled_at name.requests empty_list d) b.rows

-- What is written of a row in a batch, and of the batch. What the elements would repeat of the
-- batch is left out.
abbrev pub element_data : {A : Type 0} → RowForm A → A → Data
element_data f row = object_of ((f.member, Some (f.json row)) ∷ [])

abbrev pub batch_members : {A : Type 0} → RowForm A → Batch A → List (NameForm × Option Data)
batch_members f b =
    (name.invocation, Some (string (invocation_name b.invocation)))
    ∷ (name.request_id, option_map string b.request_id)
    ∷ (name.requests, Some (list_data (element_data f) b.rows))
    ∷ []

abbrev pub batch_data : {A : Type 0} → RowForm A → Batch A → Data
batch_data f b = object_of (batch_members f b)

-- All that the batch names or gives is of its form, and it has a row.
pub record IsBatchOfForm {A : Type 0} (f : RowForm A) (b : Batch A) : Type 0 where
  pub invocation : IsInvocationId b.invocation
  pub request_id : ForSome b.request_id IsRequestId
  pub some : b.rows ≢ []
  pub rows : All f.OfForm b.rows
