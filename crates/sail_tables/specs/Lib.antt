pub mod Refused
pub mod Tabled
