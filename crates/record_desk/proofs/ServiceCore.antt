-- What is cited of service_core, here or above.
pub use Rattle.service_machine.proofs.ServiceCore.HistoryLaws
