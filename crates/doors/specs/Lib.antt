pub mod Listeners
pub mod Waits
