pub mod Numbers
pub mod Masks
pub mod Stores
pub mod Packing
pub mod Preferences
pub mod Ranking
pub mod Roots
