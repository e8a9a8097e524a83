pub mod PolicyReading
pub mod WorkloadTurns
pub mod Policies
pub mod Lines
pub mod Endings
