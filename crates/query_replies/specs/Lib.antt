pub mod QueryPages
pub mod VerdictLists
pub mod Names
pub mod Results
pub mod Verdicts
pub mod Pages
pub mod Pieces
pub mod Laws
