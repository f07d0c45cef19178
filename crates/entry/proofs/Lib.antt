pub mod Leaves
pub mod Numbers
pub mod Orders
pub mod Spelling
