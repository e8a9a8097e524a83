-- What is cited of workload_draws, here or above.
pub use Rattle.workload_draws.specs.Drawn
pub use Rattle.workload_draws.specs.Draws
