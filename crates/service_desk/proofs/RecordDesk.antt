-- What is cited of record_desk, here or above.
pub use Rattle.record_desk.proofs.StandingLaws
