pub mod Service
pub mod States
pub mod Effects
pub mod Fitting
pub mod Refused
pub mod Planned
pub mod Laws
pub mod Storing
