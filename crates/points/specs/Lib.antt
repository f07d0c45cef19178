pub mod Points
pub mod Stores
pub mod Calls
