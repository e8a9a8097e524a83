pub mod RecordDesk
pub mod ServingLaws
pub mod StatusLaws
