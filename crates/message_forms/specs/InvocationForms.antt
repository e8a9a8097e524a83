-- What is cited of invocation_forms, here or above.
pub use Rattle.query_forms.specs.InvocationForms.Replies
pub use Rattle.query_forms.specs.InvocationForms.Shown
pub use Rattle.query_forms.specs.InvocationForms.declared
