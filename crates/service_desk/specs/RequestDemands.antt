-- What is cited of request_demands, here or above.
pub use Rattle.record_desk.specs.RequestDemands.Settings
