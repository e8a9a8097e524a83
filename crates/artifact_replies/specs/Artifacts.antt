-- What is cited of artifacts, here or above.
pub use Rattle.artifacts.specs.declared
