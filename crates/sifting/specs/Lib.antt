pub mod Sifted
pub mod InBook
