pub mod Batches
pub mod Exonerations
pub mod Hashes
pub mod Laws
pub mod Lists
pub mod Orders
pub mod Places
pub mod Results
