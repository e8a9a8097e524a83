-- What is cited of verdict_lists, here or above.
pub use Rattle.verdict_lists.specs.World
pub use Rattle.verdict_lists.specs.declared
