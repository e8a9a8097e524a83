pub mod ArtifactForms
pub mod Artifacts
pub mod TextKinds
pub mod Names
pub mod Replies
pub mod Texts
pub mod Laws
