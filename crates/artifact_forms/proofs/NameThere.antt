-- A text that isn't refused as the name of a parent, or of an artifact, names one.
use Rattle.std.proofs.Common.{◌≡◌, ℕ, List, None}
use Rattle.name_parts.specs.Pieces.{name_fault}
use Rattle.name_parts.proofs.NameLemmas.{name_fault-told}
use Rattle.names_realms.specs.declared.parents.Parent.{Parent}
use Rattle.names_realms.specs.declared.artifact_names.ArtifactName.{ArtifactName}
use Rattle.names_realms.specs.Parents.{IsParentName, parent_fault, parent_pieces}
use Rattle.names_realms.specs.ArtifactNames.{IsArtifactName, artifact_name_fault, artifact_pieces}
use Rattle.names_realms.proofs.ParentLemmas.{parent_by_name}
use Rattle.names_realms.proofs.ArtifactNameLemmas.{artifact_by_name}
use Rattle.json_fields.specs.Texts.{refused}
use Rattle.json_fields.proofs.NameLaws.{whole_refused}

pub parent_named : (text : List ℕ) → refused (parent_fault text) ≡ None → (p : Parent) × IsParentName p text
parent_named text h =
    parent_by_name text (whole_refused (λ t. name_fault (parent_pieces t) t) text (name_fault-told (parent_pieces text) text) h)

pub artifact_named : (text : List ℕ) → refused (artifact_name_fault text) ≡ None → (a : ArtifactName) × IsArtifactName a text
artifact_named text h =
    artifact_by_name text (whole_refused (λ t. name_fault (artifact_pieces t) t) text (name_fault-told (artifact_pieces text) text) h)
