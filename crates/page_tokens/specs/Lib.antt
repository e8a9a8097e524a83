pub mod Keys
pub mod Tokens
pub mod Cursors
pub mod Laws
