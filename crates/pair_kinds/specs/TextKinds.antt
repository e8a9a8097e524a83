-- What is cited of text_kinds, here or above.
pub use Rattle.text_kinds.specs.Contents
pub use Rattle.text_kinds.specs.Hashes
pub use Rattle.text_kinds.specs.Statuses
pub use Rattle.text_kinds.specs.Texts
