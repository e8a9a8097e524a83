pub mod TokenLaws
pub mod ObjectLaws
pub mod ListLaws
pub mod MemberLaws
pub mod TextLaws
