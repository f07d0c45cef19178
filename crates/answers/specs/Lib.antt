pub mod Operations
pub mod Ways
pub mod Means
