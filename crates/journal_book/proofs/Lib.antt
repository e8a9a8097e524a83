pub mod WorldLaws
pub mod StepLaws
pub mod ReadLaws
pub mod OpenLaws
