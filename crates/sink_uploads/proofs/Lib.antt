pub mod MessageForms
pub mod TryLaws
pub mod VisitLaws
pub mod RunLaws
