-- What is cited of request_rules, here or above.
pub use Rattle.service_core.proofs.RequestRules.ArtifactPlaces
pub use Rattle.service_core.proofs.RequestRules.KeyPlaces
pub use Rattle.service_core.proofs.RequestRules.PlaceLaws
