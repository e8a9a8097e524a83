-- What is cited of request_effects, here or above.
pub use Rattle.request_effects.specs.Answers
pub use Rattle.request_effects.specs.Effects
pub use Rattle.request_effects.specs.Keeps
pub use Rattle.request_effects.specs.Laws
pub use Rattle.request_effects.specs.Places
pub use Rattle.request_effects.specs.Planned
pub use Rattle.request_effects.specs.Shows
pub use Rattle.request_effects.specs.declared
