pub mod RecordDesk
pub mod TurnLaws
pub mod ShelfLaws
pub mod SendLaws
