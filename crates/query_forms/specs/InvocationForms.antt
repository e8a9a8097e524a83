-- What is cited of invocation_forms, here or above.
pub use Rattle.invocation_forms.specs.Create
pub use Rattle.invocation_forms.specs.Included
pub use Rattle.invocation_forms.specs.Named
pub use Rattle.invocation_forms.specs.Replies
pub use Rattle.invocation_forms.specs.Shown
pub use Rattle.invocation_forms.specs.Updates
pub use Rattle.invocation_forms.specs.declared
