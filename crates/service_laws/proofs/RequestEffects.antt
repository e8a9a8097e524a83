-- What is cited of request_effects, here or above.
pub use Rattle.service_core.proofs.RequestEffects.KeepLaws
pub use Rattle.service_core.proofs.RequestEffects.PlaceFacts
