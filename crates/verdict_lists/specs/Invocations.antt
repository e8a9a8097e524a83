-- What is cited of invocations, here or above.
pub use Rattle.invocations.specs.declared
