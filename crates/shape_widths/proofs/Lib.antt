mod Directions
pub mod Parts
