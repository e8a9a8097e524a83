-- What is cited of query_forms, here or above.
pub use Rattle.request_demands.specs.QueryForms.Results
pub use Rattle.request_demands.specs.QueryForms.Sizes
pub use Rattle.request_demands.specs.QueryForms.Variants
pub use Rattle.request_demands.specs.QueryForms.declared
