pub mod ArtifactForms
pub mod ArtifactReplies
pub mod Pages
pub mod Laws
