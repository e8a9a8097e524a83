-- What is cited of name_parts, here or above.
pub use Rattle.text_kinds.proofs.NameParts.PartLemmas
