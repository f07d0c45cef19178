pub mod Standing
pub mod InBook
