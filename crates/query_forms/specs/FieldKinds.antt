-- What is cited of field_kinds, here or above.
pub use Rattle.field_kinds.specs.Requests
