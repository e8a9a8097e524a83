pub mod Machine
pub mod ClapRows
pub mod Steps
pub mod Walks
pub mod Spellings
pub mod Complete
pub mod Answering
pub mod WordLists
