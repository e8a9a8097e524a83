-- What is cited of service_core, here or above.
pub use Rattle.service_replay.proofs.ServiceCore.HistoryLaws
pub use Rattle.service_replay.proofs.ServiceCore.PlanLaws
pub use Rattle.service_replay.proofs.ServiceCore.ServeLaws
