pub mod Deeper
pub mod Together
pub mod Standing
