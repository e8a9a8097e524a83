pub mod ListLaws
pub mod NameLaws
pub mod ValueLaws
pub mod PairLaws
pub mod CopyLaws
pub mod RowLaws
