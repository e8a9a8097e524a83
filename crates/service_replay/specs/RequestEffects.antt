-- What is cited of request_effects, here or above.
pub use Rattle.service_core.specs.RequestEffects.Keeps
