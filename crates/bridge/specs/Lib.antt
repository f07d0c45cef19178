pub mod Packed
pub mod Ranks
pub mod Answers
pub mod Rows
pub mod Roots
