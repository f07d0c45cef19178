pub mod Pages
pub mod Printed
pub mod Stores
pub mod Listed
pub mod Promised
pub mod Whole
pub mod Steps
