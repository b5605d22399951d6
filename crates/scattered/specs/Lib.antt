pub mod Openings
pub mod Gathered
pub mod Refused
pub mod Latest
pub mod Added
pub mod laws
