pub mod Worlds
pub mod Books
pub mod Reading
