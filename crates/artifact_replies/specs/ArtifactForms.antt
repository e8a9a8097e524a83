-- What is cited of artifact_forms, here or above.
pub use Rattle.artifact_forms.specs.Listed
pub use Rattle.artifact_forms.specs.Methods
pub use Rattle.artifact_forms.specs.Tokens
pub use Rattle.artifact_forms.specs.declared
