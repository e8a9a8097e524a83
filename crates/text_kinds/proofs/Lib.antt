pub mod JsonFields
pub mod NameParts
pub mod ContentLaws
pub mod HashLaws
pub mod TextLaws
pub mod NameLaws
pub mod TagTextLaws
