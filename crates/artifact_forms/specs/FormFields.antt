-- What is cited of form_fields, here or above.
pub use Rattle.form_fields.specs.Members
