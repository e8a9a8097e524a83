pub mod Due
pub mod Faults
pub mod Hashes
pub mod Laws
pub mod Orders
pub mod Rows
