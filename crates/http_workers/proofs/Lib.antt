pub mod TurnLaws
pub mod ClosingLaws
pub mod Serving
pub mod FramingLaws
