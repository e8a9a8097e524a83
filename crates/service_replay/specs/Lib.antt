pub mod RequestDemands
pub mod RequestEffects
pub mod ServiceCore
pub mod ServiceEffects
pub mod Replay
pub mod Replaying
