pub mod RecordDesk
pub mod SeatLaws
pub mod PostLaws
pub mod AttendLaws
pub mod OfficeLaws
