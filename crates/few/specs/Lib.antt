pub mod Few
pub mod InBook
