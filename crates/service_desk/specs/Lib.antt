pub mod RecordDesk
pub mod RequestDemands
pub mod ServiceCore
pub mod ServiceEffects
pub mod ServiceMachine
pub mod Turns
pub mod Shelves
pub mod Beginnings
