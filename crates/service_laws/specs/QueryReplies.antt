-- What is cited of query_replies, here or above.
pub use Rattle.service_core.specs.QueryReplies.Pages
pub use Rattle.service_core.specs.QueryReplies.Results
