pub mod CycleLemmas
pub mod OrderFacts
pub mod OrderLemmas
pub mod SearchLemmas
