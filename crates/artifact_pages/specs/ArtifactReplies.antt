-- What is cited of artifact_replies, here or above.
pub use Rattle.artifact_replies.specs.Replies
