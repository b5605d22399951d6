pub mod Parsed
pub mod Models
pub mod Starts
pub mod Runs
pub mod Words
