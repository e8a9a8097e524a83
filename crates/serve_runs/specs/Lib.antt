pub mod RecordDesk
pub mod ServiceCore
pub mod ServiceMachine
pub mod Endings
pub mod Runs
pub mod Statuses
