pub mod NamesRealms
pub mod Checks
pub mod Index
pub mod Owners
pub mod Permissions
pub mod Places
pub mod Spots
