pub mod Grammar
pub mod Journals
pub mod Steps
pub mod Full
pub mod Openings
pub mod Begins
