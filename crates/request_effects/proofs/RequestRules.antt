-- What is cited of request_rules, here or above.
pub use Rattle.request_rules.proofs.ArtifactPlaces
pub use Rattle.request_rules.proofs.Decided
pub use Rattle.request_rules.proofs.KeyPlaces
pub use Rattle.request_rules.proofs.PlaceLaws
pub use Rattle.request_rules.proofs.ReuseLaws
pub use Rattle.request_rules.proofs.RuleFacts
