pub mod MessageForms
pub mod Visits
pub mod Tries
pub mod Dialled
pub mod Runs
pub mod Requests
