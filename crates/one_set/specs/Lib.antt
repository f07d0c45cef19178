pub mod Plans
pub mod InBook
