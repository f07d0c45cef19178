pub mod Storing
pub mod Parsing
