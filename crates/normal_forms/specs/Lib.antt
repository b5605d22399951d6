pub mod Refusals
pub mod laws
