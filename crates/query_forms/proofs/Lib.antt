pub mod FieldKinds
pub mod InvocationForms
pub mod ResultForms
pub mod Opened
mod DecodedLaws
pub mod TokenLaws
pub mod ResultNameLaws
pub mod ListLaws
pub mod SizeLaws
pub mod SingleLaws
pub mod ResultLaws
pub mod VariantLaws
pub mod QueryLaws
