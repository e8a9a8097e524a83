pub mod JsonFields
pub mod NameParts
pub mod TextKinds
pub mod TagLaws
