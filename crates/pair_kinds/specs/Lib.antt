pub mod JsonFields
pub mod NameParts
pub mod NamesRealms
pub mod TextKinds
pub mod Tags
