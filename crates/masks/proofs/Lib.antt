pub mod Booleans
pub mod Sums
pub mod Facts
pub mod Closures
pub mod Tests
pub mod Steps
