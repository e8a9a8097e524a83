-- What is cited of request_rules, here or above.
pub use Rattle.request_effects.specs.RequestRules.Again
pub use Rattle.request_effects.specs.RequestRules.Broken
pub use Rattle.request_effects.specs.RequestRules.Held
pub use Rattle.request_effects.specs.RequestRules.Locating
pub use Rattle.request_effects.specs.RequestRules.Named
pub use Rattle.request_effects.specs.RequestRules.Rights
pub use Rattle.request_effects.specs.RequestRules.declared
