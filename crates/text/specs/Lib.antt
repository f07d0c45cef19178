pub mod Fields
pub mod Lines
pub mod Reading
pub mod Tables
pub mod Writing
pub mod Accepted
pub mod ALines
