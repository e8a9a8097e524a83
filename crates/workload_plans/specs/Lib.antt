pub mod WorkloadDraws
pub mod Requests
pub mod Plans
