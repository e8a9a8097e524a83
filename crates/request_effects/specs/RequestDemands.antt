-- What is cited of request_demands, here or above.
pub use Rattle.request_rules.specs.RequestDemands.Alone
pub use Rattle.request_rules.specs.RequestDemands.Demands
pub use Rattle.request_rules.specs.RequestDemands.Numbered
pub use Rattle.request_rules.specs.RequestDemands.Order
pub use Rattle.request_rules.specs.RequestDemands.Settings
pub use Rattle.request_rules.specs.RequestDemands.Understood
pub use Rattle.request_rules.specs.RequestDemands.declared
