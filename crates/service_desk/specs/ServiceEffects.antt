-- What is cited of service_effects, here or above.
pub use Rattle.record_desk.specs.ServiceEffects.Service
