-- What is cited of json_fields, here or above.
pub use Rattle.text_kinds.proofs.JsonFields.FormLaws
pub use Rattle.text_kinds.proofs.JsonFields.MeaningLaws
pub use Rattle.text_kinds.proofs.JsonFields.PlainLaws
pub use Rattle.text_kinds.proofs.JsonFields.WriteLaws
