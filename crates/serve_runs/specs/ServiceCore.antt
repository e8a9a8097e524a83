-- What is cited of service_core, here or above.
pub use Rattle.served_desk.specs.ServiceCore.CoreState
pub use Rattle.served_desk.specs.ServiceCore.Counting
pub use Rattle.served_desk.specs.ServiceCore.History
pub use Rattle.served_desk.specs.ServiceCore.Service
pub use Rattle.served_desk.specs.ServiceCore.declared
