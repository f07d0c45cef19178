pub mod Letters
pub mod FieldLaws
pub mod LineLaws
pub mod Feeds
pub mod States
pub mod Going
pub mod Whole
