-- What is cited of message_forms, here or above.
pub use Rattle.request_demands.specs.MessageForms.Forms
pub use Rattle.request_demands.specs.MessageForms.Methods
pub use Rattle.request_demands.specs.MessageForms.Reading
pub use Rattle.request_demands.specs.MessageForms.Replies
pub use Rattle.request_demands.specs.MessageForms.declared
