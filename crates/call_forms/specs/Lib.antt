pub mod ReplyBytes
pub mod Rules
