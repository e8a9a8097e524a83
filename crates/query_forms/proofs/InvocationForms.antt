-- What is cited of invocation_forms, here or above.
pub use Rattle.invocation_forms.proofs.CreateLaws
pub use Rattle.invocation_forms.proofs.IncludedLaws
pub use Rattle.invocation_forms.proofs.NamedLaws
pub use Rattle.invocation_forms.proofs.UpdateLaws
