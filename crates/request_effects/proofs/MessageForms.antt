-- What is cited of message_forms, here or above.
pub use Rattle.request_rules.proofs.MessageForms.FormLaws
pub use Rattle.request_rules.proofs.MessageForms.MethodLaws
pub use Rattle.request_rules.proofs.MessageForms.RequestLaws
