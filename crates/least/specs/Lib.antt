pub mod Founded
pub mod Rows
pub mod Search
