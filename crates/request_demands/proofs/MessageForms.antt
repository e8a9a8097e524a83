-- What is cited of message_forms, here or above.
pub use Rattle.message_forms.proofs.FormLaws
pub use Rattle.message_forms.proofs.MethodLaws
pub use Rattle.message_forms.proofs.RequestLaws
