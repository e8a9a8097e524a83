pub mod KeyLemmas
pub mod PageLemmas
