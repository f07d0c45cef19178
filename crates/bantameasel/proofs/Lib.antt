pub mod Across
pub mod Demand3
