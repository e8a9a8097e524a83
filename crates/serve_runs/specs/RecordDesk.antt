-- What is cited of record_desk, here or above.
pub use Rattle.served_desk.specs.RecordDesk.Clocked
pub use Rattle.served_desk.specs.RecordDesk.RequestDemands
pub use Rattle.served_desk.specs.RecordDesk.Standing
