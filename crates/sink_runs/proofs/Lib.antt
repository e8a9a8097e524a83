pub mod ReportLaws
pub mod NameLaws
pub mod TextLaws
pub mod StatusLaws
