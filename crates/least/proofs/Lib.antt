pub mod Gathering
pub mod Steps
pub mod Laws
pub mod Looks
