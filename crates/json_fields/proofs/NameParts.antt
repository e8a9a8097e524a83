-- What is cited of name_parts, here or above.
pub use Rattle.names_realms.proofs.NameParts.CutLemmas
pub use Rattle.names_realms.proofs.NameParts.PartLemmas
pub use Rattle.names_realms.proofs.NameParts.SequenceLemmas
