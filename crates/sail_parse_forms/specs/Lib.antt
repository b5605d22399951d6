pub mod Behind
pub mod Parses
