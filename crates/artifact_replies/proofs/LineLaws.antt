-- The texts of lines and of artifacts, a member at a time.
use Rattle.std.proofs.Common.{◌≡◌, ℕ, List, [], ◌∷◌, ◌++◌, length, codes, true, false, Some, refl, sym, ap, ◌∙◌, append_assoc}
use Rattle.serde_json.specs.Data.{string}
use Rattle.serde_json.specs.Written.{compact_text}
use Rattle.json_fields.specs.NamesRealms.ArtifactNames.{artifact_name}
use Rattle.json_fields.specs.NamesRealms.declared.artifact_names.ArtifactName.{ArtifactName}
use Rattle.artifact_forms.specs.ResultForms.Shown.{text_shown}
use Rattle.artifacts.specs.declared.artifact.Artifact.{Artifact}
use Rattle.artifact_forms.specs.Names as name
use Rattle.artifact_forms.specs.Hashes.{hash_text}
use Rattle.artifact_forms.specs.Files.{contents_shown}
use Rattle.artifact_replies.specs.Replies.{size_shown, line_data, artifact_data}
use Rattle.artifact_replies.specs.Texts.{member_text}
use Rattle.artifact_replies.proofs.ObjectLaws.{object_text}

-- the texts of the members
abbrev pub id_text : List ℕ → List ℕ
id_text id = member_text false (codes "artifactId") (Some (string id))

abbrev pub type_text : List ℕ → List ℕ
type_text kind = member_text true (codes "contentType") (text_shown kind)

abbrev pub contents_text : List ℕ → List ℕ
contents_text bytes = member_text true (codes "contents") (contents_shown bytes)

abbrev pub hash_member : List ℕ → List ℕ
hash_member hash = member_text true (codes "hash") (Some (string (hash_text hash)))

abbrev pub name_text : ArtifactName → List ℕ
name_text a = member_text true (codes "name") (Some (string (artifact_name a)))

abbrev pub size_text : ℕ → List ℕ
size_text size = member_text true (codes "sizeBytes") (size_shown size)

line_text : (a : Artifact) → compact_text (line_data a)
    ≡ 123 ∷ (id_text a.name.artifact ++ (type_text a.content_type ++ (name_text a.name ++ (size_text (length a.contents) ++ 125 ∷ []))))
line_text a =
    object_text name.artifact_id (string a.name.artifact)
    ((name.content_type, text_shown a.content_type) ∷ (name.name, Some (string (artifact_name a.name))) ∷ (name.size_bytes, size_shown (length a.contents)) ∷ [])
    ((refl, (refl, (refl, tt))), ((refl, (refl, tt)), ((refl, tt), (tt, tt))))

artifact_text : (a : Artifact) → compact_text (artifact_data a)
    ≡ 123 ∷ (id_text a.name.artifact ++ (type_text a.content_type ++ (contents_text a.contents ++ (hash_member a.hash
    ++ (name_text a.name ++ (size_text (length a.contents) ++ 125 ∷ []))))))
artifact_text a =
    object_text name.artifact_id (string a.name.artifact)
    ((name.content_type, text_shown a.content_type) ∷ (name.contents, contents_shown a.contents) ∷ (name.hash, Some (string (hash_text a.hash)))
    ∷ (name.name, Some (string (artifact_name a.name))) ∷ (name.size_bytes, size_shown (length a.contents)) ∷ []) (
      (refl, (refl, (refl, (refl, (refl, tt))))),
      ((refl, (refl, (refl, (refl, tt)))), ((refl, (refl, (refl, tt))), ((refl, (refl, tt)), ((refl, tt), (tt, tt))))),
    )

-- the parts of a text, one behind the other
four : (old a b c d : List ℕ) → old ++ 123 ∷ [] ++ a ++ b ++ c ++ d ++ 125 ∷ [] ≡ old ++ 123 ∷ (a ++ (b ++ (c ++ (d ++ 125 ∷ []))))
four old a b c d = simp append_assoc

six : (old a b c d e f : List ℕ) → old ++ 123 ∷ [] ++ a ++ b ++ c ++ d ++ e ++ f ++ 125 ∷ [] ≡ old ++ 123 ∷ (a ++ (b ++ (c ++ (d ++ (e ++ (f ++ 125 ∷ []))))))
six old a b c d e f = simp append_assoc

pub line_done : (a : Artifact) (old o1 o2 o3 o4 o5 kind : List ℕ) (size : ℕ) → kind ≡ a.content_type → size ≡ length a.contents
    → o1 ≡ old ++ codes "{" ++ id_text a.name.artifact → o2 ≡ o1 ++ type_text kind → o3 ≡ o2 ++ name_text a.name → o4 ≡ o3 ++ size_text size → o5 ≡ o4 ++ codes "}"
    → o5 ≡ old ++ compact_text (line_data a)
line_done a old o1 o2 o3 o4 o5 kind size is_kind is_size e1 e2 e3 e4 e5 =
    rw (e5, e4, e3, e2, e1, is_kind, is_size)
    (four old (id_text a.name.artifact) (type_text a.content_type) (name_text a.name) (size_text (length a.contents))
    ∙ ap (λ (t : List ℕ). old ++ t) (sym (line_text a)))

pub artifact_done : (a : Artifact) (old o1 o2 o3 o4 o5 o6 o7 kind bytes : List ℕ) (size : ℕ) → kind ≡ a.content_type → bytes ≡ a.contents → size ≡ length a.contents
    → o1 ≡ old ++ codes "{" ++ id_text a.name.artifact → o2 ≡ o1 ++ type_text kind → o3 ≡ o2 ++ contents_text bytes → o4 ≡ o3 ++ hash_member a.hash
    → o5 ≡ o4 ++ name_text a.name → o6 ≡ o5 ++ size_text size → o7 ≡ o6 ++ codes "}" → o7 ≡ old ++ compact_text (artifact_data a)
artifact_done a old o1 o2 o3 o4 o5 o6 o7 kind bytes size is_kind are is_size e1 e2 e3 e4 e5 e6 e7 =
    rw (e7, e6, e5, e4, e3, e2, e1, is_kind, are, is_size)
    (six old (id_text a.name.artifact) (type_text a.content_type) (contents_text a.contents) (hash_member a.hash) (name_text a.name) (size_text (length a.contents))
    ∙ ap (λ (t : List ℕ). old ++ t) (sym (artifact_text a)))
