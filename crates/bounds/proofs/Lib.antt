pub mod Singles
pub mod Ranges
pub mod Steps
pub mod Halves
