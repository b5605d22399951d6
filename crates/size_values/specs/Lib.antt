pub mod Numbers
pub mod Sizes
pub mod Hanging
pub mod Sized
