-- What callers read.
pub mod Reading
-- The machines of the code, which no public clause names.
pub mod CycleSearch
pub mod Walked
