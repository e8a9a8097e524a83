-- What is cited of text_kinds, here or above.
pub use Rattle.pair_kinds.specs.TextKinds.Contents
pub use Rattle.pair_kinds.specs.TextKinds.Hashes
pub use Rattle.pair_kinds.specs.TextKinds.Statuses
pub use Rattle.pair_kinds.specs.TextKinds.Texts
