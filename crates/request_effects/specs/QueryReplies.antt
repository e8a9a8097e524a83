-- What is cited of query_replies, here or above.
pub use Rattle.query_replies.specs.Pages
pub use Rattle.query_replies.specs.Results
