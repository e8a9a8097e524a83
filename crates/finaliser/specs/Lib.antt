pub mod Holding
pub mod Laws
pub mod Marks
pub mod Settling
pub mod Watching
