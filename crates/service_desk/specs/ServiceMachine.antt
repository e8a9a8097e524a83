-- What is cited of service_machine, here or above.
pub use Rattle.record_desk.specs.ServiceMachine.Machines
pub use Rattle.record_desk.specs.ServiceMachine.ServiceEffects
