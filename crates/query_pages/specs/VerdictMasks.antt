-- What is cited of verdict_masks, here or above.
pub use Rattle.verdict_masks.specs.Masks
