-- What is cited of service_machine, here or above.
pub use Rattle.service_machine.specs.Machines
pub use Rattle.service_machine.specs.ServiceEffects
pub use Rattle.service_machine.specs.contracts
