pub mod Gathering
pub mod Comparing
pub mod Sorting
pub mod Listing
