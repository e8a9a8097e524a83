-- What is cited of result_forms, here or above.
pub use Rattle.result_forms.specs.Methods
pub use Rattle.result_forms.specs.Replies
pub use Rattle.result_forms.specs.declared
