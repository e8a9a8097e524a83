-- What is cited of request_effects, here or above.
pub use Rattle.request_effects.proofs.AnswerLaws
pub use Rattle.request_effects.proofs.FitLaws
pub use Rattle.request_effects.proofs.KeepLaws
pub use Rattle.request_effects.proofs.PlaceFacts
pub use Rattle.request_effects.proofs.SafeLaws
