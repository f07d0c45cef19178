pub mod Columns
pub mod Misspelt
pub mod Usual
pub mod Numbers
pub mod Puts
pub mod Filled
