-- What is cited of record_desk, here or above.
pub use Rattle.record_desk.specs.Clocked
pub use Rattle.record_desk.specs.RequestDemands
pub use Rattle.record_desk.specs.Standing
