-- What names an artifact.
use Rattle.std.specs.Prelude.{List, [], ◌∷◌, Option, Some}
use Rattle.serde_json.specs.Data.{Data, string}
use Rattle.names_realms.specs.declared.artifact_names.ArtifactName.{ArtifactName}
use Rattle.names_realms.specs.ArtifactNames.{artifact_name, artifact_name_fault, IsArtifactName}
use Rattle.json_fields.specs.Fields.{required, fault_of, filled_at, Holds}
use Rattle.json_fields.specs.Kinds.{an_object, empty_text}
use Rattle.json_fields.specs.Texts.{a_text, IsText}
use Rattle.json_fields.specs.declared.faults.FieldFault.{FieldFault}
use Rattle.form_fields.specs.Members.{object_of}
use Rattle.artifact_forms.specs.Names as name

abbrev pub an_artifact_name : Data → Option FieldFault
an_artifact_name = a_text artifact_name_fault

abbrev pub IsNameOf : Data → ArtifactName → Type 0
IsNameOf = IsText (λ text a. IsArtifactName a text)

abbrev pub named_fields : List (Data → Option FieldFault)
named_fields = an_object ∷ required name.name empty_text an_artifact_name ∷ []

unfoldable pub a_named : Data → Option FieldFault
a_named d = fault_of named_fields d

abbrev pub IsNamed : Data → ArtifactName → Type 0
IsNamed d a = Holds IsNameOf (filled_at name.name empty_text d) a

-- what is written of it
abbrev pub named_data : ArtifactName → Data
named_data a = object_of ((name.name, Some (string (artifact_name a))) ∷ [])
