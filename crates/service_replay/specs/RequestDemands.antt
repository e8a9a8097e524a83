-- What is cited of request_demands, here or above.
pub use Rattle.service_core.specs.RequestDemands.Settings
pub use Rattle.service_core.specs.RequestDemands.Understood
