-- What is cited of message_forms, here or above.
pub use Rattle.request_rules.specs.MessageForms.Forms
pub use Rattle.request_rules.specs.MessageForms.Methods
pub use Rattle.request_rules.specs.MessageForms.Reading
pub use Rattle.request_rules.specs.MessageForms.declared
