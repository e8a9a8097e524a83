-- What is cited of request_demands, here or above.
pub use Rattle.service_core.specs.RequestDemands.Demands
pub use Rattle.service_core.specs.RequestDemands.Numbered
pub use Rattle.service_core.specs.RequestDemands.Order
pub use Rattle.service_core.specs.RequestDemands.Settings
