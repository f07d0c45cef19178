pub mod Walks
pub mod InBook
