pub mod Bytes
pub mod Ends
pub mod Whole
pub mod Pieces
pub mod Output
pub mod Memory
pub mod Moments
