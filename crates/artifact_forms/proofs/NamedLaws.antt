-- What names an artifact, made of its one field.
use Rattle.std.proofs.Common.{◌≡◌, ℕ, List, None, refl}
use Rattle.serde_json.specs.Data.{Data}
use Rattle.names_realms.specs.declared.artifact_names.ArtifactName.{ArtifactName}
use Rattle.names_realms.specs.ArtifactNames.{artifact_name, artifact_name_fault, IsArtifactName}
use Rattle.names_realms.proofs.NameLaws.{one_artifact_named}
use Rattle.json_fields.proofs.FormLaws.{text_form}
use Rattle.json_fields.proofs.MeaningLaws.{text_one, text_there}
use Rattle.json_fields.proofs.SpellLaws.{artifact_name_spelled}
use Rattle.form_fields.specs.Fields.{Fields, Kind, last, required_field}
use Rattle.form_fields.specs.Kinds.{text_kind}
use Rattle.form_fields.specs.Laws.{AreLawful, IsLawfulKind, IsMadeOf}
use Rattle.form_fields.proofs.FieldLaws.{last_lawful, required_lawful}
use Rattle.form_fields.proofs.KindLaws.{text_lawful}
use Rattle.artifact_forms.specs.Methods.{artifact_form}
use Rattle.artifact_forms.specs.Named.{a_named, an_artifact_name, IsNameOf}
use Rattle.artifact_forms.specs.Names as name
use Rattle.artifact_forms.proofs.NameThere.{artifact_named}

name_one : (d : Data) (a b : ArtifactName) → IsNameOf d a → IsNameOf d b → a ≡ b
name_one d a b h k = text_one (λ text x. IsArtifactName x text) (λ text x y e f. one_artifact_named x y text e f) d a b h k

named_again : (a : ArtifactName) (text : List ℕ) → IsArtifactName a text → IsArtifactName a (artifact_name a)
named_again a text is = record { spelling = refl; parent = is.parent; artifact = is.artifact }

name_there : (d : Data) → an_artifact_name d ≡ None → (a : ArtifactName) × IsNameOf d a
name_there d h = text_there artifact_name_fault (λ text a. IsArtifactName a text) artifact_named d h

abbrev name_kind : Kind ArtifactName
name_kind = text_kind artifact_name_fault (λ text a. IsArtifactName a text) (λ a. IsArtifactName a (artifact_name a)) artifact_name

name_lawful : IsLawfulKind name_kind
name_lawful =
    text_lawful artifact_name_fault (λ text a. IsArtifactName a text) _ artifact_name refl name_one name_there
    (text_form artifact_name_fault (λ text a. IsArtifactName a text) _ (λ s a none is. named_again a s is)) artifact_name_spelled

abbrev pub named_fields : Fields ArtifactName
named_fields = last (required_field name.name name_kind)

pub named_are : AreLawful named_fields
named_are = last_lawful _ (required_lawful name.name name_kind name_lawful)

pub named_made : IsMadeOf artifact_form named_fields
unfolding a_named
named_made = record {
  made = λ a. record { name = a };
  parts = λ q. q.name;
  held = λ a. refl;
  whole = λ d q is. refl;
  faults = λ d. refl;
  told = λ d q is. is;
  said = λ d q of is. is;
  in_form = λ q of. (of, refl);
  of_form = λ a of. of.0;
  members = λ q. refl;
  apart = refl;
}
