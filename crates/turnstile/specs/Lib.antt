pub mod Histories
pub mod Seats
pub mod Rule
pub mod Steps
