-- The law of what lists show: neither contents nor hashes.
use Rattle.std.specs.Prelude.{◌≡◌, length}
use Rattle.json_fields.specs.Fields.{Pairs}
use Rattle.artifacts.specs.declared.artifact.Artifact.{Artifact}
use Rattle.artifact_replies.specs.Replies.{ArtifactsShown, artifacts_data}

-- Two artifacts are alike but for their contents, of which they have equally many bytes, and for
-- their hashes and holders.
pub record AreAlike (a b : Artifact) : Type 0 where
  pub name : a.name ≡ b.name
  pub content_type : a.content_type ≡ b.content_type
  pub size : length a.contents ≡ length b.contents

-- Lists of artifacts that are alike show the same.
abbrev pub ListsHideContents : Type 0
ListsHideContents =
    (s t : ArtifactsShown) → Pairs AreAlike s.rows t.rows → s.next ≡ t.next
    → artifacts_data s ≡ artifacts_data t
