-- What is cited of request_demands, here or above.
pub use Rattle.request_demands.proofs.AloneFacts
pub use Rattle.request_demands.proofs.CauseLaws
pub use Rattle.request_demands.proofs.Judged
pub use Rattle.request_demands.proofs.NumberLaws
pub use Rattle.request_demands.proofs.PolicyLaws
pub use Rattle.request_demands.proofs.ReadLaws
pub use Rattle.request_demands.proofs.Said
