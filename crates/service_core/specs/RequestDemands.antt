-- What is cited of request_demands, here or above.
pub use Rattle.request_effects.specs.RequestDemands.Alone
pub use Rattle.request_effects.specs.RequestDemands.Demands
pub use Rattle.request_effects.specs.RequestDemands.Numbered
pub use Rattle.request_effects.specs.RequestDemands.Order
pub use Rattle.request_effects.specs.RequestDemands.Settings
pub use Rattle.request_effects.specs.RequestDemands.Understood
pub use Rattle.request_effects.specs.RequestDemands.declared
