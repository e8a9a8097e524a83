pub mod Taken
pub mod Progress
pub mod FirstPiece
pub mod EndLaws
