pub mod Options
pub mod Sinks
pub mod Serves
pub mod Workloads
pub mod Grammar
pub mod Places
pub mod Texts
pub mod Clap
