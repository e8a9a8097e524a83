-- What is cited of service_core, here or above.
pub use Rattle.service_core.proofs.ClearedLaws
pub use Rattle.service_core.proofs.PlanLaws
