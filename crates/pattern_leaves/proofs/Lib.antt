pub mod Rests
pub mod Walked
pub mod Opened
pub mod Unwritten
