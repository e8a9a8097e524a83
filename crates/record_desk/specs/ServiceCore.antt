-- What is cited of service_core, here or above.
pub use Rattle.service_machine.specs.ServiceCore.CoreState
pub use Rattle.service_machine.specs.ServiceCore.Counting
pub use Rattle.service_machine.specs.ServiceCore.History
pub use Rattle.service_machine.specs.ServiceCore.Service
pub use Rattle.service_machine.specs.ServiceCore.Step
pub use Rattle.service_machine.specs.ServiceCore.declared
