-- What is cited of message_forms, here or above.
pub use Rattle.request_effects.specs.MessageForms.Forms
pub use Rattle.request_effects.specs.MessageForms.Methods
pub use Rattle.request_effects.specs.MessageForms.Reading
pub use Rattle.request_effects.specs.MessageForms.declared
