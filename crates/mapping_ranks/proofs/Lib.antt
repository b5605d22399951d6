pub mod Reaching
pub mod Counting
