pub mod IndexedRows
pub mod LawLemmas
pub mod OrderedRows
pub mod RowLemmas
