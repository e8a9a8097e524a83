-- What is cited of request_rules, here or above.
pub use Rattle.request_effects.proofs.RequestRules.ArtifactPlaces
pub use Rattle.request_effects.proofs.RequestRules.Decided
pub use Rattle.request_effects.proofs.RequestRules.KeyPlaces
pub use Rattle.request_effects.proofs.RequestRules.PlaceLaws
pub use Rattle.request_effects.proofs.RequestRules.ReuseLaws
pub use Rattle.request_effects.proofs.RequestRules.RuleFacts
