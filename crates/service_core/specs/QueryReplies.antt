-- What is cited of query_replies, here or above.
pub use Rattle.request_effects.specs.QueryReplies.Pages
pub use Rattle.request_effects.specs.QueryReplies.Results
