-- Names of artifacts: `{parent}/artifacts/{escaped artifact id}`.
use Rattle.std.specs.Prelude.{◌≡◌, ℕ, if◌then◌else◌, nat_eq, nat_lt, Bool, List, [], ◌∷◌, ◌++◌, codes, Option}
use Rattle.std.specs.List.{common_prefix_len}
use Rattle.name_parts.specs.declared.faults.NameFault.{NameFault}
use Rattle.name_parts.specs.declared.names.Piece.{Piece}
use Rattle.name_parts.specs.declared.names.Piece.TheVariants as piece
use Rattle.names_realms.specs.declared.artifact_names.ArtifactName.{ArtifactName}
use Rattle.name_parts.specs.Pieces.{name_fault, piece_text}
use Rattle.name_parts.specs.Sequences.{unless_empty}
use Rattle.names_realms.specs.Names.{IsArtifactId}
use Rattle.names_realms.specs.Parents.{IsParentName, behind_id, parent_name}

-- the one spelling of a name
unfoldable pub artifact_name : ArtifactName → List ℕ
artifact_name a = parent_name a.parent ++ piece_text piece.Artifact a.artifact

-- the text is the name of an artifact
pub record IsArtifactName (a : ArtifactName) (text : List ℕ) : Type 0 where
  pub spelling : text ≡ artifact_name a
  pub parent : IsParentName a.parent (parent_name a.parent)
  pub artifact : IsArtifactId a.artifact

-- the pieces of an invocation's artifact, and of a result's
abbrev pub short_pieces : List Piece
short_pieces = piece.Invocation ∷ piece.Artifact ∷ []

abbrev pub long_pieces : List Piece
long_pieces = piece.Invocation ∷ piece.Test ∷ piece.Result ∷ piece.Artifact ∷ []

-- Behind an invocation's id go on both `/artifacts/` and `/tests/`: the one with which the text has
-- the longer common front counts.
unfoldable pub goes_to_tests : List ℕ → Bool
goes_to_tests text =
    nat_lt (common_prefix_len nat_eq text (codes "/artifacts/"))
    (common_prefix_len nat_eq text (codes "/tests/"))

abbrev pub artifact_pieces : List ℕ → List Piece
artifact_pieces text = if goes_to_tests (behind_id text) then long_pieces else short_pieces

abbrev pub artifact_name_fault : List ℕ → Option NameFault
artifact_name_fault text = unless_empty (λ t. name_fault (artifact_pieces t) t) text
