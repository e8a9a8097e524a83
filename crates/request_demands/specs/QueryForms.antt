-- What is cited of query_forms, here or above.
pub use Rattle.message_forms.specs.QueryForms.Results
pub use Rattle.message_forms.specs.QueryForms.Sizes
pub use Rattle.message_forms.specs.QueryForms.Variants
pub use Rattle.message_forms.specs.QueryForms.declared
