pub mod Turns
pub mod Causes
pub mod Closing
pub mod Connection
pub mod Framing
pub mod Ended
