-- What is cited of policy_checks, here or above.
pub use Rattle.policy_checks.specs.Checks
