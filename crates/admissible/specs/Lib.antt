pub mod Admissible
pub mod InBook
