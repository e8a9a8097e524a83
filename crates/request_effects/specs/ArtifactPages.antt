-- What is cited of artifact_pages, here or above.
pub use Rattle.artifact_pages.specs.Pages
pub use Rattle.artifact_pages.specs.declared
