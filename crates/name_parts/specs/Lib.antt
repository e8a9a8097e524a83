pub mod Grammar
pub mod Alphabets
pub mod Parts
pub mod Escapes
pub mod Spellings
pub mod Sequences
pub mod Pieces
pub mod Laws
