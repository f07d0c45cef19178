pub mod Views
pub mod Closures
pub mod Steps
pub mod OfRules
