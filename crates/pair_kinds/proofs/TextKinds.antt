-- What is cited of text_kinds, here or above.
pub use Rattle.text_kinds.proofs.ContentLaws
pub use Rattle.text_kinds.proofs.HashLaws
pub use Rattle.text_kinds.proofs.NameLaws
pub use Rattle.text_kinds.proofs.TagTextLaws
pub use Rattle.text_kinds.proofs.TextLaws
