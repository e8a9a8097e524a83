pub mod PartLaws
pub mod SeekLaws
pub mod ParamLaws
pub mod InsertLaws
