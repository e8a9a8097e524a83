-- What is cited of request_rules, here or above.
pub use Rattle.request_rules.specs.Again
pub use Rattle.request_rules.specs.Breaches
pub use Rattle.request_rules.specs.Broken
pub use Rattle.request_rules.specs.Held
pub use Rattle.request_rules.specs.Locating
pub use Rattle.request_rules.specs.Named
pub use Rattle.request_rules.specs.Rights
pub use Rattle.request_rules.specs.declared
