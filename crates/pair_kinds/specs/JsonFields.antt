-- What is cited of json_fields, here or above.
pub use Rattle.text_kinds.specs.JsonFields.Fields
pub use Rattle.text_kinds.specs.JsonFields.Kinds
pub use Rattle.text_kinds.specs.JsonFields.Names
pub use Rattle.text_kinds.specs.JsonFields.Texts
pub use Rattle.text_kinds.specs.JsonFields.Writing
pub use Rattle.text_kinds.specs.JsonFields.declared
