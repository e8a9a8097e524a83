-- What is cited of service_machine, here or above.
pub use Rattle.served_desk.specs.ServiceMachine.Machines
pub use Rattle.served_desk.specs.ServiceMachine.ServiceEffects
