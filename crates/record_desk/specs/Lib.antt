pub mod RequestDemands
pub mod ServiceCore
pub mod ServiceEffects
pub mod ServiceMachine
pub mod Clocked
pub mod Standing
pub mod Recording
