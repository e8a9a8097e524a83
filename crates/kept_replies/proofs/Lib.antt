pub mod KeptLemmas
pub mod FirstLemmas
