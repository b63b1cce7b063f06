pub mod FieldLaws
pub mod HeaderLaws
pub mod PointerLaws
pub mod FollowLaws
pub mod TimesLaws
pub mod ReadsBack
pub mod Determined
