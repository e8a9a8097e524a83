pub mod MessageForms
pub mod Judged
pub mod AloneFacts
pub mod Said
pub mod PolicyLaws
pub mod ReadLaws
pub mod CauseLaws
pub mod NumberLaws
