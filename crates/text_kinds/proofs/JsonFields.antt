-- What is cited of json_fields, here or above.
pub use Rattle.json_fields.proofs.FormLaws
pub use Rattle.json_fields.proofs.MeaningLaws
pub use Rattle.json_fields.proofs.PlainLaws
pub use Rattle.json_fields.proofs.WriteLaws
