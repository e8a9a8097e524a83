-- What is cited of service_core, here or above.
pub use Rattle.record_desk.specs.ServiceCore.CoreState
pub use Rattle.record_desk.specs.ServiceCore.Counting
pub use Rattle.record_desk.specs.ServiceCore.History
pub use Rattle.record_desk.specs.ServiceCore.Service
pub use Rattle.record_desk.specs.ServiceCore.declared
