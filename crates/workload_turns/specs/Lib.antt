pub mod Stops
pub mod Tallies
pub mod Pages
pub mod Courses
pub mod Runs
