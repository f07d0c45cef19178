pub mod Following
pub mod Places
pub mod Rule
pub mod Shares
pub mod Turns
