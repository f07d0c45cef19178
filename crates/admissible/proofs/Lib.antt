pub mod Subsets
pub mod Superiors
