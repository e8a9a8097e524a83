-- Batches of artifacts, all in one invocation.
use Rattle.std.specs.Prelude.{◌≡◌, ◌≢◌, ℕ, List, [], ◌∷◌, All, Option, Some, option_map}
use Rattle.std.specs.Option.{ForSome}
use Rattle.serde_json.specs.Data.{Data, string}
use Rattle.names_realms.specs.Parents.{parent_name, IsParentName}
use Rattle.json_fields.specs.Names.{NameForm}
use Rattle.json_fields.specs.Fields.{required, fault_of, filled_at, Holds, HoldsMaybe}
use Rattle.json_fields.specs.Kinds.{an_object, a_list, empty_text, empty_list, never_empty, IsEach}
use Rattle.json_fields.specs.Texts.{IsText, IsSame}
use Rattle.json_fields.specs.Writing.{list_data}
use Rattle.json_fields.specs.declared.faults.FieldFault.{FieldFault}
use Rattle.field_kinds.specs.TextKinds.Texts.{a_request_id, IsRequestId}
use Rattle.field_kinds.specs.Filled.{optional_filled}
use Rattle.form_fields.specs.Members.{object_of}
use Rattle.artifacts.specs.Orders.{invocation_of}
use Rattle.artifacts.specs.declared.new_artifact.NewArtifact.{NewArtifact}
use Rattle.artifact_forms.specs.Names as name
use Rattle.artifact_forms.specs.Files.{a_file, IsFile, file_of, file_data, IsFileOfForm}
use Rattle.artifact_forms.specs.Parents.{a_parent_beside, IsParentOf, leader_of}
use Rattle.artifact_forms.specs.declared.batches.BatchCreateArtifacts.{BatchCreateArtifacts}

-- of an element: the parent, and what is said of the artifact
abbrev pub element_fields : List ℕ → List (Data → Option FieldFault)
element_fields leader =
    an_object
    ∷ required name.parent empty_text (a_parent_beside leader)
    ∷ required name.artifact never_empty a_file
    ∷ []

unfoldable pub an_element : List ℕ → Data → Option FieldFault
an_element leader d = fault_of (element_fields leader) d

abbrev pub elements : Data → Option FieldFault
elements d = required name.requests empty_list (a_list (an_element (leader_of d))) d

-- of a batch: a request id, and the elements, of which there is one at least
abbrev pub batch_fields : List (Data → Option FieldFault)
batch_fields =
    an_object
    ∷ optional_filled name.request_id empty_text a_request_id
    ∷ elements
    ∷ []

unfoldable pub a_batch : Data → Option FieldFault
a_batch d = fault_of batch_fields d

-- The element says this artifact.
pub record IsElement (d : Data) (a : NewArtifact) : Type 0 where
  pub parent_is : Holds IsParentOf (filled_at name.parent empty_text d) a.name.parent
  pub file_is : Holds IsFile (filled_at name.artifact never_empty d) (file_of a)

-- The value asks for this batch.
pub record IsBatch (d : Data) (q : BatchCreateArtifacts) : Type 0 where
  pub request_id_is :
      HoldsMaybe (IsText IsSame) (filled_at name.request_id empty_text d) q.request_id
  pub rows_are : Holds (IsEach IsElement) (filled_at name.requests empty_list d) q.requests

-- What is written of an artifact in a batch, and of the batch.
abbrev pub element_members : NewArtifact → List (NameForm × Option Data)
element_members a =
    (name.parent, Some (string (parent_name a.name.parent)))
    ∷ (name.artifact, Some (file_data (file_of a)))
    ∷ []

abbrev pub element_data : NewArtifact → Data
element_data a = object_of (element_members a)

abbrev pub batch_members : BatchCreateArtifacts → List (NameForm × Option Data)
batch_members q =
    (name.request_id, option_map string q.request_id)
    ∷ (name.requests, Some (list_data element_data q.requests))
    ∷ []

abbrev pub batch_data : BatchCreateArtifacts → Data
batch_data q = object_of (batch_members q)

-- All that is said of the artifact is of its form.
pub record IsElementOfForm (a : NewArtifact) : Type 0 where
  pub parent : IsParentName a.name.parent (parent_name a.name.parent)
  pub file : IsFileOfForm (file_of a)

-- The artifact is one of this invocation or of a result in it.
abbrev pub IsIn : List ℕ → NewArtifact → Type 0
IsIn id a = invocation_of a.name.parent ≡ id

-- All stand in one invocation.
abbrev pub AreInOne : List NewArtifact → Type 0
AreInOne rows = (id : List ℕ) × All (IsIn id) rows

-- All that the batch names or gives is of its form, it has an artifact, and all stand in one
-- invocation.
pub record IsBatchOfForm (q : BatchCreateArtifacts) : Type 0 where
  pub request_id : ForSome q.request_id IsRequestId
  pub some : q.requests ≢ []
  pub rows : All IsElementOfForm q.requests
  pub together : AreInOne q.requests
