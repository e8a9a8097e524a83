pub mod RecordDesk
pub mod ServiceCore
pub mod ServiceDesk
pub mod ServiceMachine
pub mod Posts
pub mod Seatings
pub mod Histories
