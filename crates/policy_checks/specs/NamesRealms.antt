-- What is cited of names_realms, here or above.
pub use Rattle.names_realms.specs.Realms
