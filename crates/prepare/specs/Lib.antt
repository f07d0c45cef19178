pub mod Packing
pub mod Ranking
