pub mod Checked
pub mod Shaped
pub mod Progress
