-- What is cited of record_desk, here or above.
pub use Rattle.service_desk.proofs.RecordDesk.StandingLaws
