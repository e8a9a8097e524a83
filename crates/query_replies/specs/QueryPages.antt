-- What is cited of query_pages, here or above.
pub use Rattle.query_pages.specs.Pages
pub use Rattle.query_pages.specs.Seen
pub use Rattle.query_pages.specs.Shown
pub use Rattle.query_pages.specs.declared
