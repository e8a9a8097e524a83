pub mod Visits
pub mod Steps
pub mod Tallies
pub mod Work
pub mod Workers
