-- What is cited of policy_reading, here or above.
pub use Rattle.policy_reading.specs.Reading
