pub mod Right
pub mod Typing
pub mod Laws
