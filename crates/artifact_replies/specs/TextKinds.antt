-- What is cited of text_kinds, here or above.
pub use Rattle.artifact_forms.specs.TextKinds.Texts
