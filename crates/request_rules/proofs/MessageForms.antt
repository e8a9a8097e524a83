-- What is cited of message_forms, here or above.
pub use Rattle.request_demands.proofs.MessageForms.FormLaws
pub use Rattle.request_demands.proofs.MessageForms.MethodLaws
pub use Rattle.request_demands.proofs.MessageForms.RequestLaws
