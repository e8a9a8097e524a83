pub mod EdgeLemmas
pub mod FreshLemmas
pub mod LawLemmas
pub mod LinkLemmas
pub mod ListLemmas
pub mod SearchLemmas
pub mod WalkLemmas
pub mod ReachLaws
