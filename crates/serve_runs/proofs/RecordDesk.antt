-- What is cited of record_desk, here or above.
pub use Rattle.served_desk.proofs.RecordDesk.StandingLaws
