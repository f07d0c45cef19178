pub mod Rows
pub mod Domination
pub mod Barring
pub mod Halving
pub mod Attempting
pub mod Below
