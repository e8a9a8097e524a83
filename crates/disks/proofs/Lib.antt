pub mod WholeLaws
pub mod AheadLaws
