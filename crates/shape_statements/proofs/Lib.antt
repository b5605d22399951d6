pub mod Cases
pub mod Ranges
