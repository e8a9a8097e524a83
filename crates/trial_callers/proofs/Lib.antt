pub mod AskingLaws
pub mod CallerLaws
