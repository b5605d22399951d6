pub mod Plain
pub mod Names
pub mod Worlds
pub mod Openings
