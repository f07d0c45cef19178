pub mod Testing
pub mod Parts
pub mod Promise
