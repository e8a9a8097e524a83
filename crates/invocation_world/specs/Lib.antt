pub mod Advancing
pub mod Changes
pub mod Laws
pub mod Parts
pub mod Settling
pub mod States
pub mod Turns
pub mod World
