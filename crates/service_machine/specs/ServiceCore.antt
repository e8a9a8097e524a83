-- What is cited of service_core, here or above.
pub use Rattle.service_replay.specs.ServiceCore.CoreState
pub use Rattle.service_replay.specs.ServiceCore.Counting
pub use Rattle.service_replay.specs.ServiceCore.History
pub use Rattle.service_replay.specs.ServiceCore.Plans
pub use Rattle.service_replay.specs.ServiceCore.Service
pub use Rattle.service_replay.specs.ServiceCore.Step
pub use Rattle.service_replay.specs.ServiceCore.declared
