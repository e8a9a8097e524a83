-- What is cited of names_realms, here or above.
pub use Rattle.names_realms.specs.ArtifactNames
pub use Rattle.names_realms.specs.Names
pub use Rattle.names_realms.specs.Pairs
pub use Rattle.names_realms.specs.ResultNames
pub use Rattle.names_realms.specs.Variants
pub use Rattle.names_realms.specs.declared
