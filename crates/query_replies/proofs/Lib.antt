pub mod QueryPages
pub mod PlainLaws
pub mod TextLaws
pub mod WholeLaws
