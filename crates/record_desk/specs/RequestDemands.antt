-- What is cited of request_demands, here or above.
pub use Rattle.service_machine.specs.RequestDemands.Settings
pub use Rattle.service_machine.specs.RequestDemands.Understood
