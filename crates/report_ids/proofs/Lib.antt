pub mod NameLemmas
pub mod DigitLemmas
