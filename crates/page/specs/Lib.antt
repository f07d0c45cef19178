pub mod Orders
pub mod Pages
pub mod Sought
pub mod InBook
