-- What is cited of names_realms, here or above.
pub use Rattle.json_fields.specs.NamesRealms.Pairs
pub use Rattle.json_fields.specs.NamesRealms.declared
