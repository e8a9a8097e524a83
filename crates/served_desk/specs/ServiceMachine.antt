-- What is cited of service_machine, here or above.
pub use Rattle.service_desk.specs.ServiceMachine.Machines
pub use Rattle.service_desk.specs.ServiceMachine.ServiceEffects
