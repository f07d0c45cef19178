pub mod Plans
pub mod Looks
pub mod Sets
