pub mod Constants
pub mod Own
