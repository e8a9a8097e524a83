-- What is cited of text_kinds, here or above.
pub use Rattle.pair_kinds.proofs.TextKinds.ContentLaws
pub use Rattle.pair_kinds.proofs.TextKinds.HashLaws
pub use Rattle.pair_kinds.proofs.TextKinds.NameLaws
pub use Rattle.pair_kinds.proofs.TextKinds.TagTextLaws
pub use Rattle.pair_kinds.proofs.TextKinds.TextLaws
