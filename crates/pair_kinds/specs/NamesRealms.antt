-- What is cited of names_realms, here or above.
pub use Rattle.text_kinds.specs.NamesRealms.Pairs
pub use Rattle.text_kinds.specs.NamesRealms.declared
