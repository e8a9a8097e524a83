-- What is cited of query_pages, here or above.
pub use Rattle.query_pages.proofs.SameLemmas
pub use Rattle.query_pages.proofs.ThereLemmas
