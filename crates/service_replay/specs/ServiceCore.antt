-- What is cited of service_core, here or above.
pub use Rattle.service_core.specs.CoreState
pub use Rattle.service_core.specs.Counting
pub use Rattle.service_core.specs.History
pub use Rattle.service_core.specs.Plans
pub use Rattle.service_core.specs.Service
pub use Rattle.service_core.specs.Step
pub use Rattle.service_core.specs.declared
