pub mod Results
pub mod Plans
