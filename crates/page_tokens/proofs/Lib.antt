pub mod ByteLemmas
pub mod PartLemmas
pub mod KeyLemmas
pub mod TokenLemmas
pub mod KindLemmas
