pub mod Digits
pub mod Words
pub mod Pairs
pub mod Sizes
pub mod Lowest
