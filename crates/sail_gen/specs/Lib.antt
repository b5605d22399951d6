pub mod Draws
pub mod Model
pub mod Image
