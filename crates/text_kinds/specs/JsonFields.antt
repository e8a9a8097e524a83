-- What is cited of json_fields, here or above.
pub use Rattle.json_fields.specs.Fields
pub use Rattle.json_fields.specs.Kinds
pub use Rattle.json_fields.specs.Names
pub use Rattle.json_fields.specs.Texts
pub use Rattle.json_fields.specs.Writing
pub use Rattle.json_fields.specs.declared
