pub mod RowLaws
pub mod TableLaws
pub mod PutLaws
pub mod Whole
