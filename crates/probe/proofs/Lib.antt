pub mod Nodes
pub mod Halves
pub mod Attempts
