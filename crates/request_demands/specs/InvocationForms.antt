-- What is cited of invocation_forms, here or above.
pub use Rattle.message_forms.specs.InvocationForms.Replies
pub use Rattle.message_forms.specs.InvocationForms.Shown
pub use Rattle.message_forms.specs.InvocationForms.declared
