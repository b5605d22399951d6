pub mod Apart
pub mod Choices
pub mod Fields
pub mod LastParams
