-- What is cited of service_effects, here or above.
pub use Rattle.service_machine.specs.ServiceEffects.Service
