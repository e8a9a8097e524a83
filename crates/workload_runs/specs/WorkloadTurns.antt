-- What is cited of workload_turns, here or above.
pub use Rattle.workload_turns.specs.Runs
pub use Rattle.workload_turns.specs.declared
