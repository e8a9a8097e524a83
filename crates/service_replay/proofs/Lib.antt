pub mod RequestDemands
pub mod ServiceCore
pub mod ServiceEffects
pub mod ReplayLaws
pub mod AgainLaws
