-- What is cited of name_parts, here or above.
pub use Rattle.json_fields.specs.NameParts.declared
