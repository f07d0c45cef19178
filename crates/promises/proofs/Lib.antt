pub mod Demands
pub mod Noted
pub mod Misspelt
