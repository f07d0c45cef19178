pub mod Across
