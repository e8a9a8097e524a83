-- What is cited of name_parts, here or above.
pub use Rattle.names_realms.specs.NameParts.Escapes
pub use Rattle.names_realms.specs.NameParts.Parts
pub use Rattle.names_realms.specs.NameParts.Sequences
pub use Rattle.names_realms.specs.NameParts.declared
