pub mod Front
pub mod Filled
