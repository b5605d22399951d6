pub mod Conditions
pub mod Parts
pub mod Items
pub mod Slices
pub mod Fields
