pub mod Totals
pub mod FairLaws
pub mod SeatLaws
pub mod StepLaws
