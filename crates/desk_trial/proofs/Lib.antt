pub mod CountLaws
pub mod BookLaws
