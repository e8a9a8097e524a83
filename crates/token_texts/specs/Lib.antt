pub mod Tokens
pub mod Shown
