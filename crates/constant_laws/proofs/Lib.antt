pub mod Constants
pub mod More
pub mod Alike
