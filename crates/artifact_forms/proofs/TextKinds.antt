-- What is cited of text_kinds, here or above.
pub use Rattle.field_kinds.proofs.TextKinds.TextLaws
