pub mod ReplyLaws
pub mod ReadLaws
pub mod ReplyReadLaws
pub mod CutLaws
pub mod FieldLaws
pub mod EndLaws
pub mod StartLaws
