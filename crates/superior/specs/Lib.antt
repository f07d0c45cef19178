pub mod Superiors
pub mod InBook
