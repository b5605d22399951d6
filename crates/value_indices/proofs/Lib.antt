pub mod Walks
pub mod Parts
pub mod Written
pub mod Methods
pub mod Forced
pub mod Openings
pub mod Weights
