pub mod Basics
pub mod Values
pub mod Domains
pub mod Combinations
pub mod Constants
