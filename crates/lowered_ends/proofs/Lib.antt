pub mod Lists
pub mod Masses
pub mod Opened
pub mod Counts
mod Notes
pub mod Said
mod Kept
mod Decided
pub mod Sizes
mod Parts
mod Paths
mod Aiming
pub mod Known
mod Assigning
mod Reading
mod Endings
