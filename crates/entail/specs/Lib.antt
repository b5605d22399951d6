pub mod Standing
pub mod Levels
