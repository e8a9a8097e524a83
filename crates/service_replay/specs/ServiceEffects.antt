-- What is cited of service_effects, here or above.
pub use Rattle.service_effects.specs.Effects
pub use Rattle.service_effects.specs.Fitting
pub use Rattle.service_effects.specs.Service
pub use Rattle.service_effects.specs.declared
