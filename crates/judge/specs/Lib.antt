pub mod Judged
pub mod InBook
