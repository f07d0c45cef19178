pub mod Short
pub mod Checks
