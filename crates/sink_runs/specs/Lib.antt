pub mod SinkUploads
pub mod Texts
pub mod Configs
pub mod Reports
pub mod Runs
pub mod Endings
pub mod Statuses
