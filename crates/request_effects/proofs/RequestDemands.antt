-- What is cited of request_demands, here or above.
pub use Rattle.request_rules.proofs.RequestDemands.AloneFacts
pub use Rattle.request_rules.proofs.RequestDemands.Judged
pub use Rattle.request_rules.proofs.RequestDemands.NumberLaws
pub use Rattle.request_rules.proofs.RequestDemands.PolicyLaws
pub use Rattle.request_rules.proofs.RequestDemands.ReadLaws
pub use Rattle.request_rules.proofs.RequestDemands.Said
