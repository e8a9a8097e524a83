-- What is cited of artifact_pages, here or above.
pub use Rattle.request_effects.specs.ArtifactPages.Pages
pub use Rattle.request_effects.specs.ArtifactPages.declared
