-- What is cited of verdict_lists, here or above.
pub use Rattle.query_pages.specs.VerdictLists.World
