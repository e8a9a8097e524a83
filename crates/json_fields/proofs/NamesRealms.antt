-- What is cited of names_realms, here or above.
pub use Rattle.names_realms.proofs.InvocationNameLemmas
pub use Rattle.names_realms.proofs.NameLaws
pub use Rattle.names_realms.proofs.PairLemmas
