-- What a request says of an artifact beside its parent.
use Rattle.std.specs.Prelude.{ℕ, List, [], ◌∷◌, decimal, Option, Some, option_map}
use Rattle.base64.specs.Engines.{standard}
use Rattle.base64.specs.GeneralPurpose.{encode_of}
use Rattle.serde_json.specs.Data.{Data, string}
use Rattle.names_realms.specs.Names.{artifact_id_fault, IsArtifactId}
use Rattle.json_fields.specs.Names.{NameForm}
use Rattle.json_fields.specs.Fields.{required, optional, fault_of, filled_at, set_at, Holds, HoldsMaybe}
use Rattle.json_fields.specs.Kinds.{an_object, empty_text}
use Rattle.json_fields.specs.Texts.{a_text, IsText, IsSame}
use Rattle.json_fields.specs.declared.faults.FieldFault.{FieldFault}
use Rattle.field_kinds.specs.Defaults.{HoldsOr}
use Rattle.result_forms.specs.Fields.{IsUtf8Text}
use Rattle.form_fields.specs.Members.{object_of}
use Rattle.result_forms.specs.Shown.{unless_empty, text_shown}
use Rattle.artifacts.specs.declared.new_artifact.NewArtifact.{NewArtifact}
use Rattle.artifact_forms.specs.Names as name
use Rattle.artifact_forms.specs.Hashes.{hash_text}
use Rattle.artifact_forms.specs.Fields.{a_type, IsContentType, some_contents, IsContentsOf, AreContents, a_size, SaysSize, IsSize, a_hash, IsHashOf, IsHash}
use Rattle.artifact_forms.specs.declared.files.File.{File}

abbrev pub file_fields : List (Data → Option FieldFault)
file_fields =
    an_object
    ∷ required name.artifact_id empty_text (a_text artifact_id_fault)
    ∷ optional name.content_type a_type
    ∷ optional name.contents some_contents
    ∷ optional name.size_bytes a_size
    ∷ optional name.hash a_hash
    ∷ []

-- the first fault of an artifact: its fields in their order
unfoldable pub a_file : Data → Option FieldFault
a_file d = fault_of file_fields d

-- The value says this of an artifact.
pub record IsFile (d : Data) (f : File) : Type 0 where
  pub id_is : Holds (IsText IsSame) (filled_at name.artifact_id empty_text d) f.id
  pub type_is : HoldsOr IsUtf8Text [] (set_at name.content_type d) f.content_type
  pub contents_are : HoldsOr IsContentsOf [] (set_at name.contents d) f.contents
  pub size_is : SaysSize (set_at name.size_bytes d) f.said_size
  pub hash_is : HoldsMaybe IsHashOf (set_at name.hash d) f.said_hash

-- The members of an artifact, each with its value or none. What is empty or isn't said is left out.
abbrev pub contents_shown : List ℕ → Option Data
contents_shown bytes = unless_empty (encode_of standard bytes)

abbrev pub file_members : File → List (NameForm × Option Data)
file_members f =
    (name.artifact_id, Some (string f.id))
    ∷ (name.content_type, text_shown f.content_type)
    ∷ (name.contents, contents_shown f.contents)
    ∷ (name.size_bytes, option_map (λ n. string (decimal n)) f.said_size)
    ∷ (name.hash, option_map (λ h. string (hash_text h)) f.said_hash)
    ∷ []

-- what is written of an artifact in a request
abbrev pub file_data : File → Data
file_data f = object_of (file_members f)

-- All that is said of the artifact is of its grammar and within its limits.
pub record IsFileOfForm (f : File) : Type 0 where
  pub id : IsArtifactId f.id
  pub content_type : IsContentType f.content_type
  pub contents : AreContents f.contents
  pub size : IsSize f.said_size
  pub hash : IsHash f.said_hash

-- what is said of an artifact of a request beside its parent
abbrev pub file_of : NewArtifact → File
file_of a = record {
  id = a.name.artifact;
  content_type = a.content_type;
  contents = a.contents;
  said_size = a.said_size;
  said_hash = a.said_hash;
}
