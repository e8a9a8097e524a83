-- What is cited of service_effects, here or above.
pub use Rattle.service_effects.proofs.EffectLaws
pub use Rattle.service_effects.proofs.RoomLaws
