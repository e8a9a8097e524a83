pub mod TestNames
pub mod Rooms
pub mod Digests
