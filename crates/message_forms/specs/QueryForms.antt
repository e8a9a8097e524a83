-- What is cited of query_forms, here or above.
pub use Rattle.query_forms.specs.Results
pub use Rattle.query_forms.specs.Sizes
pub use Rattle.query_forms.specs.Variants
pub use Rattle.query_forms.specs.declared
