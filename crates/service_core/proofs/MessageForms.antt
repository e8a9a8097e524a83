-- What is cited of message_forms, here or above.
pub use Rattle.request_effects.proofs.MessageForms.FormLaws
pub use Rattle.request_effects.proofs.MessageForms.MethodLaws
pub use Rattle.request_effects.proofs.MessageForms.RequestLaws
