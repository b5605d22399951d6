pub mod Numbers
pub mod Rows
pub mod Choices
pub mod Cases
pub mod laws
