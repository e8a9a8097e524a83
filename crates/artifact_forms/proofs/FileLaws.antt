-- What is said of an artifact, made of its fields.
use Rattle.std.proofs.Common.{ℕ, List, Option, refl}
use Rattle.name_parts.specs.declared.alphabets.Alphabet.TheVariants as alphabet
use Rattle.name_parts.specs.declared.parts.PartForm.TheVariants.{Letters}
use Rattle.field_kinds.specs.Requests.{RequestForm}
use Rattle.form_fields.specs.Fields.{Fields, Kind, both, last, object_kind, optional_field, required_field}
use Rattle.form_fields.specs.Kinds.{part_kind}
use Rattle.form_fields.specs.Laws.{AreLawful, IsLawfulKind, IsMadeOf}
use Rattle.form_fields.proofs.FieldLaws.{both_lawful, last_lawful, optional_lawful, required_lawful}
use Rattle.form_fields.proofs.KindLaws.{part_lawful}
use Rattle.form_fields.proofs.RequestLaws.{object_lawful}
use Rattle.result_forms.proofs.RowKinds.{text_field, text_field_lawful}
use Rattle.artifact_forms.specs.Fields.{type_why}
use Rattle.artifact_forms.specs.Files.{a_file, IsFile, file_data, IsFileOfForm}
use Rattle.artifact_forms.specs.Names as name
use Rattle.artifact_forms.specs.declared.files.File.{File}
use Rattle.artifact_forms.proofs.FieldLaws.{contents_field, contents_field_lawful, hash_kind, hash_lawful, size_field, size_field_lawful}

abbrev file_form : RequestForm File
file_form = record { fault = a_file; means = IsFile; json = file_data; OfForm = IsFileOfForm; CanBeAsked = IsFileOfForm }

abbrev file_fields : Fields (List ℕ × (List ℕ × (List ℕ × (Option ℕ × Option (List ℕ)))))
file_fields =
    both (required_field name.artifact_id (part_kind (Letters alphabet.Artifact)))
    (both (text_field name.content_type type_why)
    (both (contents_field name.contents)
    (both (size_field name.size_bytes) (last (optional_field name.hash hash_kind)))))

file_are : AreLawful file_fields
file_are =
    both_lawful _ _ (required_lawful name.artifact_id (part_kind (Letters alphabet.Artifact)) (part_lawful (Letters alphabet.Artifact)))
    (both_lawful _ _ (text_field_lawful name.content_type type_why refl)
    (both_lawful _ _ (contents_field_lawful name.contents)
    (both_lawful _ _ (size_field_lawful name.size_bytes) (last_lawful _ (optional_lawful name.hash hash_kind hash_lawful)))))

file_made : IsMadeOf file_form file_fields
unfolding a_file
file_made = record {
  made = λ v. record { id = v.0; content_type = v.1.0; contents = v.1.1.0; said_size = v.1.1.1.0; said_hash = v.1.1.1.1 };
  parts = λ f. (f.id, (f.content_type, (f.contents, (f.said_size, f.said_hash))));
  held = λ v. refl;
  whole = λ d f is. refl;
  faults = λ d. refl;
  told = λ d f is. (is.id_is, (is.type_is, (is.contents_are, (is.size_is, is.hash_is))));
  said = λ d f of is. record { id_is = is.0; type_is = is.1.0; contents_are = is.1.1.0; size_is = is.1.1.1.0; hash_is = is.1.1.1.1 };
  in_form = λ f of. ((of.id, refl), (of.content_type, (of.contents, (of.size, of.hash))));
  of_form = λ v of. record { id = of.0.0; content_type = of.1.0; contents = of.1.1.0; size = of.1.1.1.0; hash = of.1.1.1.1 };
  members = λ f. refl;
  apart = refl;
}

abbrev pub file_kind : Kind File
file_kind = object_kind file_form file_fields

pub file_lawful : IsLawfulKind file_kind
file_lawful = object_lawful file_form file_fields file_made file_are
