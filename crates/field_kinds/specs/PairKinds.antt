-- What is cited of pair_kinds, here or above.
pub use Rattle.pair_kinds.specs.Tags
