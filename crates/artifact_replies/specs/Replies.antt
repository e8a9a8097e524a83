-- What replies show of artifacts. What is empty is left out.
use Rattle.std.specs.Prelude.{◌==◌, if◌then◌else◌, ℕ, List, [], ◌∷◌, length, decimal, Option, Some, None, option_map}
use Rattle.serde_json.specs.Data.{Data, string}
use Rattle.json_fields.specs.NamesRealms.ArtifactNames.{artifact_name}
use Rattle.json_fields.specs.Names.{NameForm}
use Rattle.json_fields.specs.Writing.{list_data}
use Rattle.artifact_forms.specs.FormFields.Members.{object_of}
use Rattle.artifact_forms.specs.ResultForms.Shown.{text_shown}
use Rattle.artifacts.specs.declared.artifact.Artifact.{Artifact}
use Rattle.artifact_forms.specs.Names as name
use Rattle.artifact_forms.specs.Hashes.{hash_text}
use Rattle.artifact_forms.specs.Files.{contents_shown}
use Rattle.artifact_replies.specs.Names.{artifacts, next_page_token}

-- how many bytes there are, as a decimal text
abbrev pub size_shown : ℕ → Option Data
size_shown n = if n == 0 then None else Some (string (decimal n))

-- An artifact in a list: its id, of which kind its contents are, its name, and how many bytes it
-- has.
abbrev pub line_members : Artifact → List (NameForm × Option Data)
line_members a =
    (name.artifact_id, Some (string a.name.artifact))
    ∷ (name.content_type, text_shown a.content_type)
    ∷ (name.name, Some (string (artifact_name a.name)))
    ∷ (name.size_bytes, size_shown (length a.contents))
    ∷ []

abbrev pub line_data : Artifact → Data
line_data a = object_of (line_members a)

-- The artifacts of a batch or of a page, in their order, and the token of the next page where there
-- is one.
pub record ArtifactsShown : Type 0 where
  pub rows : List Artifact
  pub next : Option (List ℕ)

abbrev pub rows_shown : List Artifact → Option Data
rows_shown [] = None
rows_shown (a ∷ rows) = Some (list_data line_data (a ∷ rows))

abbrev pub list_members : ArtifactsShown → List (NameForm × Option Data)
list_members s =
    (artifacts, rows_shown s.rows)
    ∷ (next_page_token, option_map string s.next)
    ∷ []

abbrev pub artifacts_data : ArtifactsShown → Data
artifacts_data s = object_of (list_members s)

-- An artifact whole: with its contents in base64, and their hash.
abbrev pub whole_members : Artifact → List (NameForm × Option Data)
whole_members a =
    (name.artifact_id, Some (string a.name.artifact))
    ∷ (name.content_type, text_shown a.content_type)
    ∷ (name.contents, contents_shown a.contents)
    ∷ (name.hash, Some (string (hash_text a.hash)))
    ∷ (name.name, Some (string (artifact_name a.name)))
    ∷ (name.size_bytes, size_shown (length a.contents))
    ∷ []

abbrev pub artifact_data : Artifact → Data
artifact_data a = object_of (whole_members a)
