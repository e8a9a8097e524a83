pub mod VisitLaws
pub mod WorkLaws
pub mod WorkerLaws
