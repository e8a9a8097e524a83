-- What is cited of request_demands, here or above.
pub use Rattle.service_replay.specs.RequestDemands.Settings
pub use Rattle.service_replay.specs.RequestDemands.Understood
