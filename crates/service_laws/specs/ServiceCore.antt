-- What is cited of service_core, here or above.
pub use Rattle.service_core.specs.History
pub use Rattle.service_core.specs.Service
pub use Rattle.service_core.specs.Step
