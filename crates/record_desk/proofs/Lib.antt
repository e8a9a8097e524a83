pub mod ServiceCore
pub mod Machines
pub mod ClockedLaws
pub mod StandingLaws
pub mod RecordingLaws
