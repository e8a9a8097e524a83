pub mod ArtifactForms
pub mod TextKinds
pub mod ObjectLaws
pub mod PlainLaws
pub mod LineLaws
pub mod ListTexts
pub mod AlikeLaws
