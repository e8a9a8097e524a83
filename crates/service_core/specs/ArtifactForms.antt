-- What is cited of artifact_forms, here or above.
pub use Rattle.request_effects.specs.ArtifactForms.declared
