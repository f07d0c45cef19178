pub mod Listed
pub mod Means
pub mod Refused
pub mod Counted
pub mod Copies
