pub mod Formula
pub mod Order
pub mod Runs
