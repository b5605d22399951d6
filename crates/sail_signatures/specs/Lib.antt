pub mod Signatures
pub mod Parts
pub mod Starts
