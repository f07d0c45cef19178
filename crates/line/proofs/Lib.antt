pub mod PutLaws
pub mod Whole
pub mod Examples
