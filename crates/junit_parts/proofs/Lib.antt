mod ByteLemmas
mod ConstructLemmas
mod ElementLemmas
mod GrammarLemmas
mod MarkLemmas
mod MeaningLemmas
mod RunLemmas
mod SpeltLemmas
mod TagLemmas
mod TimeLemmas
pub mod TreeLemmas
pub mod ValueLemmas
