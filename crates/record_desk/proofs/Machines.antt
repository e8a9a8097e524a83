-- What is cited of service_machine, here or above.
pub use Rattle.service_machine.proofs.machine
