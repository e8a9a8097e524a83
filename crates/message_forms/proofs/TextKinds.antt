-- What is cited of text_kinds, here or above.
pub use Rattle.artifact_replies.proofs.TextKinds.TextLaws
