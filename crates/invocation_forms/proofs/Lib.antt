pub mod UserLaws
pub mod MaskLaws
pub mod NamedLaws
pub mod CreateLaws
pub mod UpdateLaws
pub mod IncludedLaws
pub mod Opened
