-- What is cited of service_effects, here or above.
pub use Rattle.service_replay.specs.ServiceEffects.Fitting
pub use Rattle.service_replay.specs.ServiceEffects.Service
