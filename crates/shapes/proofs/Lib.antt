pub mod Refused
pub mod Bound
pub mod Steps
