-- What is cited of artifact_pages, here or above.
pub use Rattle.service_core.specs.ArtifactPages.Pages
pub use Rattle.service_core.specs.ArtifactPages.declared
