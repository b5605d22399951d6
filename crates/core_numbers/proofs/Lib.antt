pub mod Steps
pub mod Differ
