pub mod BatchLemmas
pub mod ExonerationLemmas
pub mod FaultLemmas
pub mod KeyLemmas
pub mod LawLemmas
pub mod ListLemmas
pub mod PlaceLemmas
pub mod TableLemmas
