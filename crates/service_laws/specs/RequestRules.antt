-- What is cited of request_rules, here or above.
pub use Rattle.service_core.specs.RequestRules.Broken
pub use Rattle.service_core.specs.RequestRules.Held
pub use Rattle.service_core.specs.RequestRules.Named
pub use Rattle.service_core.specs.RequestRules.Rights
pub use Rattle.service_core.specs.RequestRules.declared
