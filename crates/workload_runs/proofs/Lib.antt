pub mod WorkloadTurns
