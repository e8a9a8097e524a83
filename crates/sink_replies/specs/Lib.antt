pub mod Replies
pub mod Reading
pub mod Found
pub mod Judged
pub mod Ends
pub mod Reads
