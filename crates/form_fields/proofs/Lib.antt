pub mod MemberLaws
pub mod FieldLaws
pub mod TextLaws
pub mod KindLaws
pub mod WholeLaws
pub mod RequestLaws
