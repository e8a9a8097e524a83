-- What is cited of request_effects, here or above.
pub use Rattle.service_core.specs.RequestEffects.Answers
pub use Rattle.service_core.specs.RequestEffects.Effects
pub use Rattle.service_core.specs.RequestEffects.Keeps
pub use Rattle.service_core.specs.RequestEffects.Places
pub use Rattle.service_core.specs.RequestEffects.Shows
pub use Rattle.service_core.specs.RequestEffects.declared
