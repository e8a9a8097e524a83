pub mod PairKinds
pub mod TextKinds
pub mod NumberLaws
pub mod ListLaws
pub mod ObjectLaws
pub mod OrderLaws
pub mod FilledLaws
pub mod VariantLaws
pub mod DefaultLaws
pub mod ReadValues
mod TextLaws
mod TokenLaws
pub mod ReadLaws
pub mod CompactLaws
pub mod ThereLaws
pub mod RequestLaws
