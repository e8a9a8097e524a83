-- What is cited of invocation_world, here or above.
pub use Rattle.invocation_world.specs.Advancing
pub use Rattle.invocation_world.specs.World
