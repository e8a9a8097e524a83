-- What is cited of invocation_forms, here or above.
pub use Rattle.request_demands.specs.InvocationForms.Replies
pub use Rattle.request_demands.specs.InvocationForms.Shown
pub use Rattle.request_demands.specs.InvocationForms.declared
