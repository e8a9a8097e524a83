-- What is cited of request_demands, here or above.
pub use Rattle.request_effects.proofs.RequestDemands.AloneFacts
pub use Rattle.request_effects.proofs.RequestDemands.Judged
pub use Rattle.request_effects.proofs.RequestDemands.NumberLaws
pub use Rattle.request_effects.proofs.RequestDemands.PolicyLaws
pub use Rattle.request_effects.proofs.RequestDemands.ReadLaws
pub use Rattle.request_effects.proofs.RequestDemands.Said
