pub mod Made
pub mod Gone
pub mod Claim
