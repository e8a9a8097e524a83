pub mod BareLemmas
pub mod FollowLemmas
pub mod RowLemmas
pub mod SameLemmas
pub mod ThereLemmas
pub mod TokenLemmas
pub mod ZipLemmas
