-- What is cited of artifact_forms, here or above.
pub use Rattle.artifact_forms.proofs.MethodLaws
