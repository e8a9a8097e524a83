pub mod TallyLaws
pub mod CourseLaws
pub mod PageLaws
pub mod RunLaws
pub mod StopLaws
