pub mod PathLemmas
