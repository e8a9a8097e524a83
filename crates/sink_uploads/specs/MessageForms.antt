-- What is cited of message_forms, here or above.
pub use Rattle.message_forms.specs.Methods
pub use Rattle.message_forms.specs.Reading
pub use Rattle.message_forms.specs.declared
