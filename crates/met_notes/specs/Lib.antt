pub mod Met
pub mod Covers
