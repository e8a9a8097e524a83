pub mod FormLemmas
pub mod IndexLemmas
pub mod PlaceLemmas
pub mod SpotLemmas
