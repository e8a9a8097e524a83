pub mod RequestDemands
pub mod ServiceCore
pub mod ServiceEffects
pub mod Machines
pub mod Laws
pub mod Leading
